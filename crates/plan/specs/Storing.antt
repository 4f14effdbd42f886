-- Document 01, "Steps": one aligned image word stored, in a counter's slot. Assumes nothing.
use Rattle.std.specs.Prelude.{ℕ, ◌+◌, List, [], ◌∷◌}
use Rattle.words.specs.Words.{with_word}
use Rattle.image.specs.Header.{slot_at}
use Rattle.plan.specs.declared.Store.{Store}

-- the image with a store made in a counter's slot: these four bytes and no other
unfoldable pub stored : List ℕ → ℕ → Store → List ℕ
stored image counter store = with_word image (slot_at image counter + store.at) store.word

-- several stores, one after the other
unfoldable pub all_stored : List Store → List ℕ → ℕ → List ℕ
all_stored [] image counter = image
all_stored (store ∷ more) image counter = all_stored more (stored image counter store) counter
