-- Document 01, "Refusal numbers": 1 to 3, in order, for any bytes of any length. Assumes nothing.
use Rattle.std.specs.Prelude.{ℕ, ◌+◌, ◌*◌, ◌%◌, Bool, not, List, [], ◌∷◌, ltb, eqb, length}
use Rattle.words.specs.Rows.{Row, ◌gives◌, first_failing, any_of}
use Rattle.image.specs.Header.{count, offset, slot_size, total}

-- the bytes per slot that there are
unfoldable pub is_size : ℕ → Bool
is_size each = eqb each 48

-- 1: image shorter than 16 bytes or longer than 65,536, or word 3 is not its length
-- 2: count is 0 or above 4
-- 3: offset below 16 or not a multiple of 4; slot size not one that there is; offset + slot size × count above the total (an exact sum)
abbrev pub refusals : ℕ → ℕ → ℕ → ℕ → ℕ → List (Row ℕ)
refusals size counters first each whole =
    (any_of (ltb size 16 ∷ ltb 65536 size ∷ not (eqb whole size) ∷ []) gives 1)
    ∷ (any_of (eqb counters 0 ∷ ltb 4 counters ∷ []) gives 2)
    ∷ (any_of (ltb first 16 ∷ not (eqb (first % 4) 0) ∷ not (is_size each) ∷ ltb whole (first + each * counters) ∷ []) gives 3)
    ∷ []

-- the same of an image
abbrev pub refusals_of : List ℕ → List (Row ℕ)
refusals_of image = refusals (length image) (count image) (offset image) (slot_size image) (total image)

-- its refusal, 0 if it is accepted
unfoldable pub refusal : List ℕ → ℕ
refusal image = first_failing (refusals_of image)
