-- Document 01, refusal number 11: the answer of the hash, digest by value, zeros if refused. Assumes nothing.
use Rattle.std.specs.Prelude.{ℕ, Result, Ok, Err, List, [], ◌∷◌, ltb, length, replicate}
use Rattle.words.specs.Rows.{◌gives◌, first_of}
use Rattle.refusals.specs.declared.Refusal.{Refusal}
use Rattle.refusals.specs.Numbers.{number}
use Rattle.hash.specs.Sha256.{sha256}

-- an answer: its number, and a digest by value
pub record Answer : Type 0 where
  pub number : ℕ
  pub digest : List ℕ

-- done: number 0 and the digest
abbrev pub done : List ℕ → Answer
done d = record { number = 0; digest = d }

-- refused: the refusal's number and zeros
abbrev pub refused : ℕ → Answer
refused n = record { number = n; digest = replicate 32 0 }

-- what a result says of an answer
abbrev pub answer_of : Result (List ℕ) Refusal → Answer
answer_of (Ok d) = done d
answer_of (Err refusal) = refused (number refusal)

-- 11: message above 55 bytes
unfoldable pub hash_answer : List ℕ → Answer
hash_answer m = first_of ((ltb 55 (length m) gives refused 11) ∷ []) (done (sha256 m))
