-- The 383 bytes of a state: its parts, one behind the other. Assumes nothing.
use Rattle.std.specs.Prelude.{ℕ, List, [], ◌∷◌, ◌++◌}
use Rattle.words.specs.Words.{bytes_of, bytes_of_all}
use Rattle.state.specs.declared.Key.{Key}
use Rattle.state.specs.declared.State.{State}
use Rattle.state.specs.Parts.{session_key}
use Rattle.packed.specs.Codes.{flag_byte, kind_byte}

-- 11 bytes: status, reset-enable, then of the job whether it is there, its kind, counter, step and kept word, and last
-- whether there is a reply
abbrev pub packed_head : State → List ℕ
packed_head s =
    s.status ∷ flag_byte s.enabled ∷ flag_byte s.job.there ∷ kind_byte s.job.kind ∷ s.job.counter ∷ s.job.step
    ∷ (bytes_of s.job.kept ++ (flag_byte s.reply.there ∷ []))

-- 33 bytes: whether there is a key, and its bytes
abbrev pub packed_key : Key → List ℕ
packed_key key = flag_byte key.there ∷ key.bytes

-- 132 bytes: the session keys by counter
abbrev pub packed_keys : State → List ℕ
packed_keys s = packed_key (session_key s 0) ++ packed_key (session_key s 1) ++ packed_key (session_key s 2) ++ packed_key (session_key s 3)

-- 192 bytes: the chaining words, and what the job keeps
abbrev pub packed_work : State → List ℕ
packed_work s = bytes_of_all s.chain ++ bytes_of_all s.job.inner ++ s.job.frame ++ s.job.root_key ++ s.job.made

-- the head, the reply, the session keys, the work
unfoldable pub packed : State → List ℕ
packed s = packed_head s ++ s.reply.bytes ++ packed_keys s ++ packed_work s
