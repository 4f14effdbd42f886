-- Document 01, refusals 6 and 11 of the HMAC, in this order; digest by value, zeros if refused. Assumes nothing.
use Rattle.std.specs.Prelude.{ℕ, not, List, [], ◌∷◌, eqb, ltb, length}
use Rattle.words.specs.Rows.{◌gives◌, first_of}
use Rattle.hash.specs.Answer.{Answer, done, refused}
use Rattle.hmac.specs.Hmac.{HMAC}

-- 6: the key is not 32 bytes; 11: the message is above 55 bytes
unfoldable pub hmac_answer : List ℕ → List ℕ → Answer
hmac_answer key message =
    first_of ((not (eqb (length key) 32) gives refused 6) ∷ (ltb 55 (length message) gives refused 11) ∷ []) (done (HMAC key message))
