-- Document 01, "A taken OP1 frame": the four frames that a host builds. Assumes nothing.
use Rattle.std.specs.Prelude.{ℕ, ◌-◌, List, [], ◌∷◌, ◌++◌}
use Rattle.words.specs.Table.{field}
use Rattle.hmac.specs.Hmac.{HMAC}
use Rattle.frames.specs.Layout.{layout_of}

-- 9Bh; byte 1 is the type, byte 2 the counter, byte 3 reserved
abbrev pub head : ℕ → ℕ → List ℕ
head type counter = 0x9B ∷ type ∷ counter ∷ 0 ∷ []

-- bytes with their signature behind them
unfoldable pub signed_by : List ℕ → List ℕ → List ℕ
signed_by key bytes = bytes ++ HMAC key bytes

-- 00: the key, then the last 28 of 32 signature bytes, of bytes 0-3 under the key sent
unfoldable pub root_key_frame : ℕ → List ℕ → List ℕ
root_key_frame counter key =
    (head 0 counter ++ key) ++ field (32 - (layout_of 0).sent) (layout_of 0).sent (HMAC key (head 0 counter))

-- the new session key is the HMAC of the key data under the root key
unfoldable pub new_session_key : List ℕ → List ℕ → List ℕ
new_session_key root key_data = HMAC root key_data

-- 01: signed under the new session key. 02 and 03: under the session key
unfoldable pub session_key_frame : ℕ → List ℕ → List ℕ → List ℕ
session_key_frame counter root key_data = signed_by (new_session_key root key_data) (head 1 counter ++ key_data)

unfoldable pub increment_frame : ℕ → List ℕ → List ℕ → List ℕ
increment_frame counter key value = signed_by key (head 2 counter ++ value)

unfoldable pub request_frame : ℕ → List ℕ → List ℕ → List ℕ
request_frame counter key tag = signed_by key (head 3 counter ++ tag)
