-- Document 01, "The counter image": the header's words, and where a slot stands. Assumes nothing.
use Rattle.std.specs.Prelude.{ℕ, ◌+◌, ◌*◌, List}
use Rattle.words.specs.Words.{word_or0}

-- word 0: the number of counters
abbrev pub count : List ℕ → ℕ
count image = word_or0 image 0

-- word 1: the byte offset of the first slot
abbrev pub offset : List ℕ → ℕ
offset image = word_or0 image 4

-- word 2: the bytes per slot
abbrev pub slot_size : List ℕ → ℕ
slot_size image = word_or0 image 8

-- word 3: the image's total length
abbrev pub total : List ℕ → ℕ
total image = word_or0 image 12

-- where the slot of a counter starts
unfoldable pub slot_at : List ℕ → ℕ → ℕ
slot_at image counter = offset image + slot_size image * counter
