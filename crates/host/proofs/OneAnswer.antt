-- One answer only, for each public function of this crate. Assumes nothing.
use Prim.Native.Nat.{ℕ}
use mathlib.Core.Path.{sym, ◌∙◌}
use mathlib.Core.List.{List}
use Rattle.words.proofs.Unique.{OneResult, OneLent, OneSeen}
use Rattle.refusals.proofs.Numbers.{one_outcome}
use Rattle.host.proofs.build_root_key.Reads as build-root-key-reads
use Rattle.host.proofs.build_session_key.Reads as build-session-key-reads
use Rattle.host.proofs.build_increment.Reads as build-increment-reads
use Rattle.host.proofs.build_request.Reads as build-request-reads
use Rattle.host.proofs.derive_session_key.Reads as derive-session-key-reads
use Rattle.host.proofs.read_reply.Reads as read-reply-reads
use Rattle.host.proofs.U32FromVerdict.from.Reads as from-reads
use Rattle.host.proofs.part.Reads as part-reads

build_root_key_one : OneResult build-root-key-reads.Post
build_root_key_one κs a x y s t p q = one_outcome x y (p.0 ∙ sym q.0)

build_root_key_one_lent : OneLent build-root-key-reads.Post (λ κs s. s.1.1.0.now)
build_root_key_one_lent κs a x y s t p q = p.1 ∙ sym q.1

build_session_key_one : OneResult build-session-key-reads.Post
build_session_key_one κs a x y s t p q = one_outcome x y (p.0 ∙ sym q.0)

build_session_key_one_lent : OneLent build-session-key-reads.Post (λ κs s. s.1.1.1.0.now)
build_session_key_one_lent κs a x y s t p q = p.1 ∙ sym q.1

build_increment_one : OneResult build-increment-reads.Post
build_increment_one κs a x y s t p q = one_outcome x y (p.0 ∙ sym q.0)

build_increment_one_lent : OneLent build-increment-reads.Post (λ κs s. s.1.1.1.0.now)
build_increment_one_lent κs a x y s t p q = p.1 ∙ sym q.1

build_request_one : OneResult build-request-reads.Post
build_request_one κs a x y s t p q = one_outcome x y (p.0 ∙ sym q.0)

build_request_one_lent : OneLent build-request-reads.Post (λ κs s. s.1.1.1.0.now)
build_request_one_lent κs a x y s t p q = p.1 ∙ sym q.1

derive_session_key_one : OneResult derive-session-key-reads.Post
derive_session_key_one κs a x y s t p q = one_outcome x y (p.0 ∙ sym q.0)

derive_session_key_one_lent : OneLent derive-session-key-reads.Post (λ κs s. s.1.1.0.now)
derive_session_key_one_lent κs a x y s t p q = p.1 ∙ sym q.1

read_reply_one : OneResult read-reply-reads.Post
read_reply_one κs a x y s t p q = p ∙ sym q

part_one : OneSeen part-reads.Post {L = (ℕ × ℕ) × List ℕ} (λ κs r. (r.ref_ptr, r.now))
part_one κs a x y s t p q = λ i. ((p.1 ∙ sym q.1) i, (p.0 ∙ sym q.0) i)

from_one : OneResult from-reads.Post
from_one κs a x y s t p q = p ∙ sym q
