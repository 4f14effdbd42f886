-- Document 01, "A taken OP1 frame": the ten checks, in order. The first failing check decides: its status, or 0 where none fails.
-- 1 to 7 are made on arrival, 8 to 10 when the signature is known. Assumes nothing.
use Rattle.std.specs.Prelude.{ℕ, Bool, true, false, not, List, [], ◌∷◌, ◌++◌, ltb, eqb, length}
use Rattle.words.specs.Choice.{pick}
use Rattle.words.specs.Rows.{Row, ◌gives◌, first_failing}
use Rattle.image.specs.declared.Slot.{Slot}
use Rattle.image.specs.Slot.{is_set, is_bad}
use Rattle.frames.specs.Layout.{layout_of, type_of, counter_of, reserved_of}

-- 6. type 00 with root set, or type 01 with counter unset
abbrev pub wrong_state : ℕ → Slot → Bool
wrong_state type slot = pick (eqb type 0) (is_set slot.root_state) (pick (eqb type 1) (not (is_set slot.counter_state)) false)

-- 7. types 02, 03 with counter unset or no session key
abbrev pub not_ready : ℕ → Slot → Bool → Bool
not_ready type slot has_key = pick (ltb 1 type) (pick (is_set slot.counter_state) (not has_key) true) false

-- 1. type above 03. 2. wrong length. 3. reserved byte not 0. 4. counter not below the count, first of type 00, then of the others.
-- 5. bad slot. 6 and 7
abbrev pub arrival_checks : ℕ → ℕ → ℕ → ℕ → ℕ → Slot → Bool → List (Row ℕ)
arrival_checks type size reserved counter count slot has_key =
    (ltb 3 type gives 0x04)
    ∷ (not (eqb size (layout_of type).size) gives 0x04)
    ∷ (not (eqb reserved 0) gives 0x04)
    ∷ (pick (ltb counter count) false (eqb type 0) gives 0x06)
    ∷ (not (ltb counter count) gives 0x04)
    ∷ (is_bad slot gives 0x20)
    ∷ (wrong_state type slot gives 0x02)
    ∷ (not_ready type slot has_key gives 0x08)
    ∷ []

-- 8. signature, first of type 00, then of the others: `holds` says that it is right
abbrev pub signature_checks : ℕ → Bool → List (Row ℕ)
signature_checks type holds = (pick holds false (eqb type 0) gives 0x02) ∷ (not holds gives 0x04) ∷ []

-- 9. type 02, data is not the counter value. 10. type 02, value FFFFFFFFh
abbrev pub value_checks : ℕ → ℕ → ℕ → List (Row ℕ)
value_checks type sent value =
    (pick (eqb type 2) (not (eqb sent value)) false gives 0x10)
    ∷ (pick (eqb type 2) (eqb value 0xFFFFFFFF) false gives 0x20)
    ∷ []

-- 8 to 10
abbrev pub last_checks : ℕ → Bool → ℕ → ℕ → List (Row ℕ)
last_checks type holds sent value = signature_checks type holds ++ value_checks type sent value

-- checks 1 to 7 of a frame, with the image's count, the counter's slot, and whether the counter has a session key
abbrev pub checks_of : List ℕ → ℕ → Slot → Bool → List (Row ℕ)
checks_of frame count slot has_key = arrival_checks (type_of frame) (length frame) (reserved_of frame) (counter_of frame) count slot has_key

unfoldable pub arrival_status : List ℕ → ℕ → Slot → Bool → ℕ
arrival_status frame count slot has_key = first_failing (checks_of frame count slot has_key)
