-- Published digests, computed from the definition: the empty message, and FIPS 180's messages of one and of two blocks.
use Rattle.std.specs.Prelude.{◌≡◌, refl, []}
use Rattle.octets.specs.Bytes.{ascii, digits, value_from, zeros}
use Rattle.fips180.specs.Sha256.{constants, zeros_of, padded, words_of, initial, next_word, schedule_of, round_of, rounds_of, sum_of, block_of, blocks_of, digest_of, sha256_of}

pub published :
    (sha256_of [] ≡ digits 32 0xe3b0c44298fc1c149afbf4c8996fb92427ae41e4649b934ca495991b7852b855)
    × (sha256_of (ascii "abc") ≡ digits 32 0xba7816bf8f01cfea414140de5dae2223b00361a396177a9cb410ff61f20015ad)
    × (sha256_of (ascii "abcdbcdecdefdefgefghfghighijhijkijkljklmklmnlmnomnopnopq") ≡ digits 32 0x248d6a61d20638b8e5c026930c3e6039a33ce45964ff2167f6ecedd419db06c1)
unfolding digits value_from zeros constants zeros_of padded words_of initial next_word schedule_of round_of rounds_of sum_of block_of blocks_of digest_of sha256_of
published = (refl, refl, refl)
