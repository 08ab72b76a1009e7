-- A flow that is filled in step by step.
use Rattle.std.proofs.Common.{◌≡◌, ◌≢◌, ℕ, ◌+◌, ◌^◌, ◌<◌, ◌⊎◌, ◌↔◌, inl, inr, refl, sym, subst}
use Rattle.row_words.specs.Words.{IsSet, Flows, begin, rise, fall, IsFilled, LeadsTo, AreNext}
use Rattle.row_words.proofs.WordLemmas.{is_empty, some_set, set_or_not, more_is_greater}

module _ (seeds free up down : ℕ) where
  -- the word has the seeds and only places to which it flows, and `more` has the next ones
  pub record IsFilling (word more : ℕ) : Type 0 where
    pub fits : more < 2 ^ 64
    pub begun : (i : ℕ) → IsSet seeds i → IsSet free i → IsSet word i
    pub sound : (i : ℕ) → IsSet word i → Flows seeds free up down i
    pub next : AreNext word free up down more

  pub filling_begins : (word more : ℕ) → ((i : ℕ) → IsSet word i ↔ (IsSet seeds i × IsSet free i)) → AreNext word free up down more → more < 2 ^ 64 → IsFilling word more
  filling_begins word more has next fits = record {
    fits = fits;
    begun = λ i seed opened. (has i).1 (seed, opened);
    sound = λ i set. (let is = (has i).0 set in begin is.0 is.1);
    next = next;
  }

  -- it flows to the next places
  pub flows_on : (word i : ℕ) → ((j : ℕ) → IsSet word j → Flows seeds free up down j) → LeadsTo word up down i → IsSet free i → Flows seeds free up down i
  flows_on word i sound leads opened = elim leads [
    | inl (j, after, set, rises) ↦ (let P : ℕ → Type 0 = λ k. Flows seeds free up down k in
        let Q : ℕ → Type 0 = λ k. IsSet free k in
        subst P (sym after) (rise (sound j set) rises (subst Q after opened)))
    | inr (set, falls) ↦ fall (sound (i + 1) set) falls opened
  ]

  module _ (word more wider : ℕ) (filling : IsFilling word more) (has : (i : ℕ) → IsSet wider i ↔ (IsSet word i ⊎ IsSet more i)) where
    pub filling_goes_on : (next : ℕ) → AreNext wider free up down next → next < 2 ^ 64 → IsFilling wider next
    filling_goes_on next are_next fits = record {
      fits = fits;
      begun = λ i seed opened. (has i).1 (inl (filling.begun i seed opened));
      sound = λ i set. elim ((has i).0 set) [
        | inl before ↦ filling.sound i before
        | inr now ↦ (let is = (filling.next i).0 now in flows_on word i filling.sound is.0 is.1)
      ];
      next = are_next;
    }

    pub filling_grows : more ≢ 0 → word < wider
    filling_grows some =
        let place = some_set more filling.fits some in
        more_is_greater word wider place.0 (λ i set. (has i).1 (inl set)) ((has place.0).1 (inr place.2)) ((filling.next place.0).0 place.2).2

  module _ (word more : ℕ) (filling : IsFilling word more) (none : more ≡ 0) where
    -- no place is next
    pub nothing_is_next : (i : ℕ) → LeadsTo word up down i → IsSet free i → IsSet word i
    nothing_is_next i leads opened = elim (set_or_not word i) [
      | inl set ↦ set
      | inr lacks ↦ absurd (is_empty more none i ((filling.next i).1 (leads, opened, lacks)))
    ]

    pub has_all : {i : ℕ} → Flows seeds free up down i → IsSet word i
    has_all (begin {i} seed opened) = filling.begun i seed opened
    has_all (rise {i} flows rises opened) = nothing_is_next (i + 1) (inl (i, refl, has_all flows, rises)) opened
    has_all (fall {i} flows falls opened) = nothing_is_next i (inr (has_all flows, falls)) opened

    pub filling_ends : IsFilled seeds free up down word
    filling_ends = record { all = λ i flows. has_all flows; only = filling.sound }
