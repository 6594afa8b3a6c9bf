-- The code's struct of eight words as the definition's record.
use Rattle.fips180.specs.Sha256.{Hash}
use Rattle.sha256.specs.declared.State.{State}

abbrev pub hash_of : State → Hash
hash_of s = record { a = s.a; b = s.b; c = s.c; d = s.d; e = s.e; f = s.f; g = s.g; h = s.h }
