-- The fields of what a host builds, as the device keeps it. Assumes nothing.
use Prim.Native.Nat.{ℕ, ◌+◌, ◌≤◌}
use mathlib.Core.Path.{◌≡◌, refl, ap, ◌∙◌}
use mathlib.Core.List.{List, [], ◌++◌}
use native.Mathlib.Omega.{arith}
use lib.ListN.{length}
use Rattle.words.specs.Table.{field}
use Rattle.words.proofs.Fields.{field-field, field_between, field_behind}
use Rattle.hmac.specs.Hmac.{HMAC}
use Rattle.hmac.proofs.Lengths.{length-HMAC}
use Rattle.frames.specs.Layout.{counter_of}
use Rattle.rules.specs.Whole.{frame_kept}
use Rattle.host.specs.Frames.{head, signed_by, root_key_frame}

-- the first 64 bytes are kept as they are
pub kept_field : (at n : ℕ) (frame : List ℕ) → at + n ≤ 64 → field at n (frame_kept frame) ≡ field at n frame
kept_field at n frame h =
    field-field 0 64 at n frame h ∙ ap (λ (k : ℕ). field k n frame) (omega arith)

-- the key of a root key frame
pub root_key-sent : (counter : ℕ) (key : List ℕ) → length key ≡ 32 → field 4 32 (frame_kept (root_key_frame counter key)) ≡ key
unfolding root_key_frame
root_key-sent counter key size =
    kept_field 4 32 (root_key_frame counter key) (omega arith)
    ∙ field_between 4 32 (head 0 counter) key (field 4 28 (HMAC key (head 0 counter))) refl size

-- a signed frame: head, data, and the signature of both
module _ (key : List ℕ) (type counter : ℕ) («data» : List ℕ) (n : ℕ) (size : length «data» ≡ n) (fits : n ≤ 28) where
  abbrev front : List ℕ
  front = head type counter ++ «data»

  abbrev sent : List ℕ
  sent = signed_by key front

  pub counter_sent : counter_of sent ≡ counter
  unfolding signed_by
  counter_sent = refl

  pub front-sent : field 0 (4 + n) (frame_kept sent) ≡ front
  unfolding signed_by
  front-sent = kept_field 0 (4 + n) sent (omega arith) ∙ field_between 0 (4 + n) [] front (HMAC key front) refl (omega (arith, size))

  pub data_sent : field 4 n (frame_kept sent) ≡ «data»
  unfolding signed_by
  data_sent = kept_field 4 n sent (omega arith) ∙ field_between 4 n (head type counter) «data» (HMAC key front) refl size

  pub signature-sent : field (4 + n) 32 (frame_kept sent) ≡ HMAC key front
  unfolding signed_by
  signature-sent =
      kept_field (4 + n) 32 sent (omega arith)
      ∙ field_behind (4 + n) 32 front (HMAC key front) (omega (arith, size)) (length-HMAC key front)
