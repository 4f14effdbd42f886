-- The two layouts agree: states whose parts are told apart come back from their bytes, and so does each kind. Assumes nothing.
use Prim.Native.Nat.{◌+◌, ◌*◌}
use mathlib.Core.Path.{◌≡◌, refl}
use mathlib.Core.Bool.{Bool, true, false}
use mathlib.Core.List.{[], ◌∷◌}
use Rattle.words.specs.Choice.{pick}
use Rattle.words.specs.Table.{table, spread}
use Rattle.jobs.specs.declared.Kind.{Kind}
use Rattle.jobs.specs.declared.Kind.TheVariants.{RootKeyAndCounter, RootKey, SessionKey, Increment, Request, TemporaryKeyAndCounter, TemporaryKey}
use Rattle.state.specs.declared.State.{State}
use Rattle.packed.specs.Codes.{kind_byte, kind_of}
use Rattle.packed.specs.Packed.{packed}
use Rattle.packed.specs.Unpacked.{unpacked}

kind_comes_back : (k : Kind) → kind_of (kind_byte k) ≡ k
unfolding kind_of pick
kind_comes_back RootKeyAndCounter = refl
kind_comes_back RootKey = refl
kind_comes_back TemporaryKeyAndCounter = refl
kind_comes_back TemporaryKey = refl
kind_comes_back SessionKey = refl
kind_comes_back Increment = refl
kind_comes_back Request = refl

-- a state in which no two parts begin alike, with its three flags outside the keys
unfoldable some : Bool → Bool → Bool → State
some enabled job reply =
    record {
      status = 1;
      keys = record { there = true; bytes = table (λ i. 2 + i) 32 } ∷ record { there = false; bytes = table (λ i. 3 + i) 32 }
          ∷ record { there = true; bytes = table (λ i. 4 + i) 32 } ∷ record { there = true; bytes = table (λ i. 5 + i) 32 } ∷ [];
      reply = record { there = reply; bytes = table (λ i. 6 + i) 48 };
      enabled = enabled;
      chain = table (λ i. 305419896 + 65537 * i) 8;
      job =
          record {
            there = job;
            kind = SessionKey;
            counter = 7;
            step = 8;
            frame = table (λ i. 9 + i) 64;
            root_key = table (λ i. 10 + i) 32;
            made = table (λ i. 11 + i) 32;
            inner = table (λ i. 2271560481 + 257 * i) 8;
            kept = 16909060;
          };
    }

enabled_comes_back : unpacked (packed (some true false false)) ≡ some true false false
unfolding unpacked packed some table spread pick kind_of
enabled_comes_back = refl

job_comes_back : unpacked (packed (some false true false)) ≡ some false true false
unfolding unpacked packed some table spread pick kind_of
job_comes_back = refl

reply_comes_back : unpacked (packed (some false false true)) ≡ some false false true
unfolding unpacked packed some table spread pick kind_of
reply_comes_back = refl
