-- What it means that a contract has one answer only: any two outcomes that satisfy it are equal; and that it does not look at what is
-- lent in a place, so that the one answer is that of all calls which differ there alone. It is said of the contract itself, as the prover
-- reads it from the source: `Post`, of the lifetimes, the arguments, the result and what is lent, as it is at exit. Each crate proves it
-- of each of its public functions, in its file OneAnswer. Assumes nothing.
use mathlib.Core.Path.{◌≡◌}

module _ {K : Type 0} {A R S : K → Type 0} (Post : (κs : K) → A κs → R κs → S κs → Type 0) where
  -- any two results are equal
  abbrev pub OneResult : Type 0
  OneResult = (κs : K) (a : A κs) (x y : R κs) (s t : S κs) → Post κs a x s → Post κs a y t → x ≡ y

  -- any two outcomes leave the same in what is lent
  abbrev pub OneLent : {L : Type 0} → ((κs : K) → S κs → L) → Type 0
  OneLent lent = (κs : K) (a : A κs) (x y : R κs) (s t : S κs) → Post κs a x s → Post κs a y t → lent κs s ≡ lent κs t

  -- any two results show the same, where a result is a place in what is lent and not a value
  abbrev pub OneSeen : {L : Type 0} → ((κs : K) → R κs → L) → Type 0
  OneSeen seen = (κs : K) (a : A κs) (x y : R κs) (s t : S κs) → Post κs a x s → Post κs a y t → seen κs x ≡ seen κs y

  -- what satisfies it is the same, whatever is lent in a place: it does not look there
  abbrev pub Regardless : {L : Type 0} → ((κs : K) → A κs → L → A κs) → Type 0
  Regardless {L = L} lending = (κs : K) (a : A κs) (x : R κs) (s : S κs) (l : L) → Post κs a x s → Post κs (lending κs a l) x s

  -- then what one answer says of a call holds between all calls that are the same but for that place: their results are equal, and so
  -- is what they leave
  module _ {L : Type 0} (lending : (κs : K) → A κs → L → A κs) (regardless : Regardless lending) where
    pub one_result_anew :
        OneResult → (κs : K) (a : A κs) (l : L) (x y : R κs) (s t : S κs) → Post κs a x s → Post κs (lending κs a l) y t → x ≡ y
    one_result_anew one κs a l x y s t p q = one κs (lending κs a l) x y s t (regardless κs a x s l p) q

    pub one_lent_anew :
        {M : Type 0} (lent : (κs : K) → S κs → M) → OneLent lent →
        (κs : K) (a : A κs) (l : L) (x y : R κs) (s t : S κs) → Post κs a x s → Post κs (lending κs a l) y t → lent κs s ≡ lent κs t
    one_lent_anew lent one κs a l x y s t p q = one κs (lending κs a l) x y s t (regardless κs a x s l p) q
