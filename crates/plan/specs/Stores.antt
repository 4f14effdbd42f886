-- Document 01, "Steps": the words that a job stores after its signature, one a step, in order. Assumes nothing.
use Rattle.std.specs.Prelude.{ℕ, zero, suc, ◌+◌, ◌*◌, List, [], ◌∷◌, ◌++◌, get_or}
use Rattle.words.specs.Words.{word_or0}
use Rattle.jobs.specs.declared.Kind.{Kind}
use Rattle.jobs.specs.declared.Kind.TheVariants.{RootKeyAndCounter, RootKey, SessionKey, Increment, Request, TemporaryKeyAndCounter, TemporaryKey}
use Rattle.plan.specs.declared.Store.{Store}

-- key word i, bytes 4-35 of the frame: 16-47 of the slot
abbrev pub key_store : List ℕ → ℕ → Store
key_store frame i = record { at = 16 + 4 * i; word = word_or0 frame (4 + 4 * i) }

-- the first n key words, in order
unfoldable pub key_stores : List ℕ → ℕ → List Store
key_stores frame zero = []
key_stores frame (suc n) = key_stores frame n ++ (key_store frame n ∷ [])

-- the steps that set a counter: value 0 and counter state 0
abbrev pub counter_stores : List Store
counter_stores = record { at = 8; word = 0 } ∷ record { at = 4; word = 0 } ∷ []

-- root state 0
abbrev pub root_stores : List Store
root_stores = record { at = 0; word = 0 } ∷ []

-- the steps of an increment: the kept successor becomes the value
abbrev pub increment_stores : ℕ → List Store
increment_stores kept = record { at = 8; word = kept } ∷ []

-- type 00, key not all FFh: 8 key words in order, then, if the counter is unset, value 0 and counter state 0, last root state 0
-- type 00, key all FFh: value 0 and counter state 0 if unset, else nothing
-- type 02: one word. Types 01 and 03: none
abbrev pub stores : Kind → List ℕ → ℕ → List Store
stores RootKeyAndCounter frame kept = key_stores frame 8 ++ (counter_stores ++ root_stores)
stores RootKey frame kept = key_stores frame 8 ++ root_stores
stores TemporaryKeyAndCounter frame kept = counter_stores
stores TemporaryKey frame kept = []
stores SessionKey frame kept = []
stores Increment frame kept = increment_stores kept
stores Request frame kept = []

-- past the last store, where no step is left
abbrev pub no_store : Store
no_store = record { at = 0; word = 0 }

-- store i of a kind of job, from 0
unfoldable pub store_of : Kind → ℕ → List ℕ → ℕ → Store
store_of kind i frame kept = get_or (stores kind frame kept) i no_store
