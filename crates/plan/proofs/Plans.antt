-- The plan of a job as a list of stores: how many there are, and what one store more makes of the image. Assumes nothing.
use Prim.Native.Nat.{ℕ, suc, ◌+◌, ◌<◌}
use mathlib.Core.Path.{◌≡◌, refl}
use mathlib.Core.List.{List, [], ◌∷◌, ◌++◌}
use lib.ListN.{length, get_or, take}
use lib.Seq.{take-suc}
use Rattle.jobs.specs.Jobs.{length_of, command_of, hash_steps}
use Rattle.jobs.specs.declared.Kind.{Kind}
use Rattle.jobs.specs.declared.Kind.TheVariants.{RootKeyAndCounter, RootKey, SessionKey, Increment, Request, TemporaryKeyAndCounter, TemporaryKey}
use Rattle.plan.specs.declared.Store.{Store}
use Rattle.plan.specs.Stores.{key_stores, stores, no_store}
use Rattle.plan.specs.Storing.{stored, all_stored}

-- the stores of a kind of job come after its hash steps, one a step
pub plan-length : (kind : Kind) (frame : List ℕ) (kept : ℕ) → hash_steps (command_of kind) + length (stores kind frame kept) ≡ length_of kind
unfolding key_stores
plan-length RootKeyAndCounter frame kept = refl
plan-length RootKey frame kept = refl
plan-length TemporaryKeyAndCounter frame kept = refl
plan-length TemporaryKey frame kept = refl
plan-length SessionKey frame kept = refl
plan-length Increment frame kept = refl
plan-length Request frame kept = refl

-- one store more comes last
pub stored_last : (ss : List Store) (store : Store) (image : List ℕ) (c : ℕ) → all_stored (ss ++ (store ∷ [])) image c ≡ stored (all_stored ss image c) c store
unfolding all_stored
stored_last [] store image c = refl
stored_last (s ∷ ss) store image c = stored_last ss store (stored image c s) c

pub stored_more : (ss : List Store) (j : ℕ) (image : List ℕ) (c : ℕ) → j < length ss → all_stored (take (suc j) ss) image c ≡ stored (all_stored (take j ss) image c) c (get_or ss j no_store)
stored_more ss j image c h = rw (take-suc ss j no_store h) (stored_last (take j ss) (get_or ss j no_store) image c)
