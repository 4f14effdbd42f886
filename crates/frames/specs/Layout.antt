-- Document 01, "A taken OP1 frame": the table of the four frames, for both ends. Byte 1 is the type, byte 2 the counter, byte 3
-- reserved. Assumes nothing.
use Rattle.std.specs.Prelude.{ℕ, ◌-◌, List, [], ◌∷◌, get_or}
use Rattle.words.specs.Table.{field}

-- whose key signs a frame
pub data Signer : Type 0 where
  BySentKey : Signer
  ByNewSessionKey : Signer
  BySessionKey : Signer

-- a row: the frame's length; where the signature stands, behind the other fields; how many front bytes are signed; how many of the
-- signature's 32 bytes are sent, the last ones; and whose key signs
pub record Layout : Type 0 where
  pub size : ℕ
  pub at : ℕ
  pub signed : ℕ
  pub sent : ℕ
  pub signer : Signer

abbrev pub row : ℕ → ℕ → ℕ → ℕ → Signer → Layout
row size at signed sent signer = record { size = size; at = at; signed = signed; sent = sent; signer = signer }

-- 00 root key: 4-35 key, 36-63 truncated signature. 01 session key: 4-7 key data, 8-39 signature
-- 02 increment: 4-7 counter data, 8-39 signature. 03 request: 4-15 tag, 16-47 signature
abbrev pub layouts : List Layout
layouts =
    row 64 36 4 28 BySentKey
    ∷ row 40 8 8 32 ByNewSessionKey
    ∷ row 40 8 8 32 BySessionKey
    ∷ row 48 16 16 32 BySessionKey
    ∷ []

-- the row of a type; there is none above 03
abbrev pub layout_of : ℕ → Layout
layout_of type = get_or layouts type (row 0 0 0 0 BySessionKey)

abbrev pub type_of : List ℕ → ℕ
type_of frame = get_or frame 1 0

abbrev pub counter_of : List ℕ → ℕ
counter_of frame = get_or frame 2 0

abbrev pub reserved_of : List ℕ → ℕ
reserved_of frame = get_or frame 3 0

-- the bytes of a frame of a type: what is signed, the data between head and signature, the signature
abbrev pub signed_in : ℕ → List ℕ → List ℕ
signed_in type frame = field 0 (layout_of type).signed frame

abbrev pub data_in : ℕ → List ℕ → List ℕ
data_in type frame = field 4 ((layout_of type).at - 4) frame

abbrev pub signature_in : ℕ → List ℕ → List ℕ
signature_in type frame = field (layout_of type).at (layout_of type).sent frame
