-- The entries of all first appearances are the answer of operation 10.
use Rattle.std.specs.Prelude.{ℕ, ◌+◌, ◌≤◌, ◌<◌, ◌≡◌, T, length}
use Rattle.std.proofs.Math.Path.{sym, ap}
use Rattle.std.proofs.Common.{◌∙◌, arith}
use Rattle.octets.specs.Bytes.{Bytes}
use Rattle.octets.specs.Put.{Put}
use Rattle.definition.proofs.Laws.Book.Contents.{length_map}
use Rattle.definition.specs.Answer.{Answer, Counts, head_of, head_bytes}
use Rattle.definition.specs.Reports.{count_of, tally, counts}
use Rattle.definition.specs.Perform.{in_length}
use Rattle.definition.specs.Sound.{station, sound}
use Rattle.definition.proofs.Laws.Steps.Answers.{length_answer}
use Rattle.definition.specs.Clauses.Does.{Does, Answers, Refuses}
use Rattle.history.specs.DoesLaws.{does_look}
use Rattle.answers.specs.AnswerLaws.{list_head, put_list}
use Rattle.reply.specs.ReplyLaws.{answered, refused}
use Rattle.metrics.specs.Meaning.{ratings, firsts, sizes, listing}
use Rattle.metrics.specs.ListingLaws.{length_entries}

module _ (b : Bytes) (n : ℕ) (e : n ≡ length (firsts b)) (h : T (sound b)) (a : Bytes) where
  abbrev answer : Answer
  answer = Counts (tally (ratings b))

  headed : head_of answer ≡ list_head n
  unfolding tally
  headed = ap list_head (length_map (count_of (ratings b)) (firsts b) ∙ sym e)

  counted : Does counts b b answer
  unfolding counts
  counted = does_look b _ h

  -- how long the answer is
  size : length (listing b) ≡ sizes (firsts b)
  unfolding tally
  size = length_entries (ratings b) (firsts b)

  pub counts_refused : length a < 16 + sizes (firsts b) → Refuses (in_length (length a) counts) b b a a 30
  counts_refused l = refused counts b a answer (station b) counted.step (omega (arith, length_answer answer, size))

  -- the entries fit
  pub counts_fit : {m : ℕ} → m ≡ 16 + sizes (firsts b) → m ≤ length a → 16 + length (listing b) ≤ length a
  counts_fit em l = omega (arith, size)

  pub counts_answered :
      (c d : Bytes) (r m : ℕ) → Put a 16 (listing b) r c → Put c 0 (head_bytes (list_head n)) m d → Answers (in_length (length a) counts) b b a d r
  counts_answered c d r m p q = answered counts b a answer b d r counted (put_list answer n headed p q)
