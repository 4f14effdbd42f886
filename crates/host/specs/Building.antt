-- Document 01, "Refusal numbers": host build checks 5, 6, 7. A built frame fills the front of the output; the rest stays.
-- Assumes nothing.
use Rattle.std.specs.Prelude.{ℕ, ◌-◌, ◌≡◌, not, List, [], ◌∷◌, ◌++◌, ltb, eqb, length}
use Rattle.words.specs.Choice.{pick}
use Rattle.words.specs.Words.{with_front}
use Rattle.words.specs.Rows.{Row, ◌gives◌, first_failing, any_of}
use Rattle.frames.specs.Layout.{layout_of}
use Rattle.host.specs.Frames.{head, signed_by, new_session_key, root_key_frame, session_key_frame, increment_frame, request_frame}

-- 5: counter number above 3. 6: a key not 32 bytes, tag not 12, other data not 4. 7: output shorter than the frame
abbrev pub build_refusals : ℕ → ℕ → ℕ → ℕ → ℕ → ℕ → List (Row ℕ)
build_refusals counter key_size data_size data_needed room needed =
    (ltb 3 counter gives 5)
    ∷ (any_of (not (eqb key_size 32) ∷ not (eqb data_size data_needed) ∷ []) gives 6)
    ∷ (ltb room needed gives 7)
    ∷ []

unfoldable pub build_refusal : ℕ → ℕ → ℕ → ℕ → ℕ → ℕ → ℕ
build_refusal counter key_size data_size data_needed room needed =
    first_failing (build_refusals counter key_size data_size data_needed room needed)

-- the whole answer of a build: its number, 0 if it is done, and the output afterwards
pub record Built : Type 0 where
  pub number : ℕ
  pub output : List ℕ

-- a call answers so: this is the number that it returns, and this the output that it leaves
abbrev pub Answers : Built → ℕ → List ℕ → Type 0
Answers b number output = (number ≡ b.number) × (output ≡ b.output)

-- a refused call leaves the output as found
abbrev pub built : ℕ → List ℕ → List ℕ → Built
built number filled output = record { number = number; output = pick (eqb number 0) filled output }

-- the bytes of data between head and signature that a frame of a type has
abbrev pub data_size_of : ℕ → ℕ
data_size_of type = (layout_of type).at - 4

-- a frame of a type, of a key and data: the frame table says how much data, and how much room in the output
abbrev pub built_frame : ℕ → ℕ → List ℕ → List ℕ → List ℕ → List ℕ → Built
built_frame type counter key bytes frame output =
    built (build_refusal counter (length key) (length bytes) (data_size_of type) (length output) (layout_of type).size)
    (with_front frame output)
    output

-- builders of types 00 and 01 take the root key, the others the session key; the data of type 00 is the key
abbrev pub built_root_key : ℕ → List ℕ → List ℕ → Built
built_root_key counter key output = built_frame 0 counter key key (root_key_frame counter key) output

abbrev pub built_session_key : ℕ → List ℕ → List ℕ → List ℕ → Built
built_session_key counter root key_data output = built_frame 1 counter root key_data (session_key_frame counter root key_data) output

abbrev pub built_increment : ℕ → List ℕ → List ℕ → List ℕ → Built
built_increment counter key value output = built_frame 2 counter key value (increment_frame counter key value) output

abbrev pub built_request : ℕ → List ℕ → List ℕ → List ℕ → Built
built_request counter key tag output = built_frame 3 counter key tag (request_frame counter key tag) output

-- either of types 02 and 03: head and data, and the signature of both
abbrev pub built_signed : ℕ → ℕ → List ℕ → List ℕ → List ℕ → Built
built_signed type counter key bytes output =
    built_frame type counter key bytes (signed_by key (head type counter ++ bytes)) output

-- the session key of a root key and key data, those of type 01: refused as a build is, and 32 bytes at the front of the output
abbrev pub derived_key : List ℕ → List ℕ → List ℕ → Built
derived_key root key_data output =
    built (build_refusal 0 (length root) (length key_data) (data_size_of 1) (length output) 32)
    (with_front (new_session_key root key_data) output)
    output
