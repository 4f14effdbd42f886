-- One answer only, for each public function of this crate. Assumes nothing.
use mathlib.Core.Path.{sym, ◌∙◌}
use Rattle.words.proofs.Unique.{OneResult}
use Rattle.jobs.proofs.length_of.Reads as length-of-reads
use Rattle.jobs.proofs.CommandFromKind.from.Reads as from-reads
use Rattle.jobs.proofs.CommandTryFromU8.try_from.Reads as try-from-reads
use Rattle.jobs.proofs.signature_steps.Reads as signature-steps-reads
use Rattle.jobs.proofs.hash_steps.Reads as hash-steps-reads
use Rattle.jobs.proofs.Types.{typed_one}
use Rattle.jobs.proofs.kind_of.Reads as kind-of-reads

length_of_one : OneResult length-of-reads.Post
length_of_one κs a x y s t p q = p ∙ sym q

command_of_one : OneResult from-reads.Post
command_of_one κs a x y s t p q = p ∙ sym q

try_from_one : OneResult try-from-reads.Post
try_from_one κs a x y s t p q = typed_one a.0 x y p q

signature_steps_one : OneResult signature-steps-reads.Post
signature_steps_one κs a x y s t p q = p ∙ sym q

hash_steps_one : OneResult hash-steps-reads.Post
hash_steps_one κs a x y s t p q = p ∙ sym q

kind_of_one : OneResult kind-of-reads.Post
kind_of_one κs a x y s t p q = p ∙ sym q
