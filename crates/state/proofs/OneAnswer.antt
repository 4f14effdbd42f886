-- One answer only, for each public function of this crate. Assumes nothing.
use mathlib.Core.Path.{sym, ◌∙◌}
use Rattle.words.proofs.Unique.{OneResult}
use Rattle.refusals.proofs.Numbers.{one_outcome}
use Rattle.state.proofs.no_reply.Reads as no-reply-reads
use Rattle.state.proofs.power_on.Reads as power-on-reads
use Rattle.state.proofs.session_key.Reads as session-key-reads
use Rattle.state.proofs.posted.Reads as posted-reads
use Rattle.state.proofs.is_running.Reads as is-running-reads
use Rattle.state.proofs.accepted.Reads as accepted-reads

no_reply_one : OneResult no-reply-reads.Post
no_reply_one κs a x y s t p q = p ∙ sym q

power_on_one : OneResult power-on-reads.Post
power_on_one κs a x y s t p q = p ∙ sym q

session_key_one : OneResult session-key-reads.Post
session_key_one κs a x y s t p q = p ∙ sym q

posted_one : OneResult posted-reads.Post
posted_one κs a x y s t p q = p ∙ sym q

is_running_one : OneResult is-running-reads.Post
is_running_one κs a x y s t p q = p ∙ sym q

accepted_one : OneResult accepted-reads.Post
accepted_one κs a x y s t p q = one_outcome x y (p ∙ sym q)
