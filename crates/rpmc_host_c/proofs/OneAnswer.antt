-- One answer only, for each entry. Assumes nothing.
use Prim.Native.Nat.{ℕ}
use mathlib.Core.Path.{sym, ◌∙◌}
use mathlib.Core.List.{List}
use Rattle.words.proofs.Unique.{OneResult, OneLent}
use Rattle.rpmc_host_c.proofs.rpmc_build_root_key.Reads as build-root-key-reads
use Rattle.rpmc_host_c.proofs.rpmc_build_session_key.Reads as build-session-key-reads
use Rattle.rpmc_host_c.proofs.rpmc_build_increment.Reads as build-increment-reads
use Rattle.rpmc_host_c.proofs.rpmc_build_request.Reads as build-request-reads
use Rattle.rpmc_host_c.proofs.rpmc_session_key.Reads as session-key-reads
use Rattle.rpmc_host_c.proofs.rpmc_read_reply.Reads as read-reply-reads
use Rattle.rpmc_host_c.proofs.rpmc_part.Reads as part-reads

build_root_key_one : OneResult build-root-key-reads.Post
build_root_key_one κs a x y s t p q = p.0 ∙ sym q.0

build_root_key_one_lent : OneLent build-root-key-reads.Post (λ κs s. s.1.1.0.now)
build_root_key_one_lent κs a x y s t p q = p.1 ∙ sym q.1

build_session_key_one : OneResult build-session-key-reads.Post
build_session_key_one κs a x y s t p q = p.0 ∙ sym q.0

build_session_key_one_lent : OneLent build-session-key-reads.Post (λ κs s. s.1.1.1.0.now)
build_session_key_one_lent κs a x y s t p q = p.1 ∙ sym q.1

build_increment_one : OneResult build-increment-reads.Post
build_increment_one κs a x y s t p q = p.0 ∙ sym q.0

build_increment_one_lent : OneLent build-increment-reads.Post (λ κs s. s.1.1.1.0.now)
build_increment_one_lent κs a x y s t p q = p.1 ∙ sym q.1

build_request_one : OneResult build-request-reads.Post
build_request_one κs a x y s t p q = p.0 ∙ sym q.0

build_request_one_lent : OneLent build-request-reads.Post (λ κs s. s.1.1.1.0.now)
build_request_one_lent κs a x y s t p q = p.1 ∙ sym q.1

session_key_one : OneResult session-key-reads.Post
session_key_one κs a x y s t p q = p.0 ∙ sym q.0

session_key_one_lent : OneLent session-key-reads.Post (λ κs s. s.1.1.0.now)
session_key_one_lent κs a x y s t p q = p.1 ∙ sym q.1

read_reply_one : OneResult read-reply-reads.Post
read_reply_one κs a x y s t p q = p ∙ sym q

part_one_lent : OneLent part-reads.Post {L = (ℕ × ℕ) × List ℕ} (λ κs s. (s.1.1.1.0.now.ref_ptr, s.1.1.1.0.now.now))
part_one_lent κs a x y s t p q = λ i. ((p.1 ∙ sym q.1) i, (p.0 ∙ sym q.0) i)
