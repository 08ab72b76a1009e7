-- The entries of answers, and what of them is behind a book.
use Rattle.std.proofs.Common.{◌≡◌, ◌≢◌, ℕ, zero, suc, ◌+◌, ◌≤◌, ◌⊎◌, inl, inr, List, [], ◌∷◌, ◌++◌, length, set, Option, Some, None, refl, sym, ap, ◌∙◌, subst, arith}
use Rattle.std.specs.Prelude.{All, IfSome, fold, slice_get, IsPermutation}
use Rattle.std.proofs.lemmas.List.Elements.{All-nil, All-cons, All-head, All-tail, filter_map-append}
use Rattle.std.proofs.lemmas.List.Sorted.{IsPermutation-append_left}
use Rattle.fleet_base.specs.declared.request.RouteId.{RouteId}
use Rattle.fleet_base.specs.declared.request.Entry.{Entry}
use Rattle.fleet_base.specs.declared.request.Entry.TheVariants as E
use Rattle.fleet_base.specs.Terrain.{Terrain}
use Rattle.fleet_base.specs.History.{Past, followed_by, reply_of, era_of, IsAllowed, EachFollows}
use Rattle.fleet_base.proofs.WalkLemmas.{nat_cases}
use Rattle.fleet_base.proofs.HistoryLemmas.{era-counts}
use Rattle.fleet_base.proofs.TailLemmas.{IsPast}
use Rattle.fleet_base.proofs.Reorder.{Reorder-from_permutation, Reorder-is_permutation}
use Rattle.lane_runs.specs.declared.answer.Answer.{Answer}
use Rattle.lane_runs.specs.Answers.{entry_made, entries_made}
use Rattle.plain_book.specs.BookState.{BookState}
use Rattle.plain_run.specs.Underway.{IsBehind}
use Rattle.tail_run.proofs.LeavingLemmas.{Reorder-filter_map}
use Rattle.tail_run.proofs.KeepingLemmas.{each_list, same_some}

-- ---- entries of answers

pub made_append : (xs ys : List Answer) → entries_made (xs ++ ys) ≡ entries_made xs ++ entries_made ys
made_append xs ys = filter_map-append entry_made xs ys

pub made_permutation : (xs ys : List Answer) → IsPermutation xs ys → IsPermutation (entries_made xs) (entries_made ys)
made_permutation xs ys same = Reorder-is_permutation (Reorder-filter_map entry_made (Reorder-from_permutation xs ys same))

all_parts : {X : Type 0} (P : X → Type 0) (xs ys : List X) → All P (xs ++ ys) → All P xs × All P ys
all_parts P [] ys h = (All-nil P, h)
all_parts P (x ∷ xs) ys h = let r = all_parts P xs ys (All-tail P x (xs ++ ys) h) in (All-cons P x xs (All-head P x (xs ++ ys) h) r.0, r.1)

-- what holds of the entries of all lanes holds of those of one
pub of_one : (P : Entry → Type 0) (by_lane : List (List Answer)) (k : ℕ) (xs : List Answer) → slice_get by_lane k ≡ Some xs → All P (entries_made (each_list by_lane)) → All P (entries_made xs)
of_one P [] k xs at h = absurd (cc)
of_one P (ys ∷ by_lane) zero xs at h =
    subst (λ (l : List Answer). All P (entries_made l)) (same_some ys xs at) (all_parts P (entries_made ys) (entries_made (each_list by_lane)) (subst (All P) (made_append ys (each_list by_lane)) h)).0
of_one P (ys ∷ by_lane) (suc k) xs at h = of_one P by_lane k xs at (all_parts P (entries_made ys) (entries_made (each_list by_lane)) (subst (All P) (made_append ys (each_list by_lane)) h)).1

-- the entries of all answers are those of the list and those of the tail
pub all_entries : (made tail answers : List Answer) (list : List Entry) → answers ≡ made ++ tail → IsPermutation (entries_made made) list
    → IsPermutation (entries_made answers) (list ++ entries_made tail)
all_entries made tail answers list are same =
    subst (λ (es : List Entry). IsPermutation es (list ++ entries_made tail)) (sym (ap entries_made are ∙ made_append made tail))
    (IsPermutation-append_left (entries_made tail) (entries_made made) list same)

-- ---- places

module _ {X : Type 0} where
  pub get_later : (xs ys : List X) (i : ℕ) (a : X) → slice_get ys i ≡ Some a → slice_get (xs ++ ys) (length xs + i) ≡ Some a
  get_later [] ys i a h = ap (slice_get ys) (omega arith) ∙ h
  get_later (x ∷ xs) ys i a h =
      let place : suc (length xs + i) ≡ length (x ∷ xs) + i = omega arith in
      subst (λ (n : ℕ). slice_get (x ∷ (xs ++ ys)) n ≡ Some a) place (get_later xs ys i a h)

  pub set_cases : (xs : List X) (k i : ℕ) (z y : X) → slice_get (set xs k z) i ≡ Some y → ((i ≢ k) × (slice_get xs i ≡ Some y)) ⊎ ((i ≡ k) × (z ≡ y))
  set_cases [] k i z y h = absurd (cc)
  set_cases (x ∷ xs) zero zero z y h = inr (refl, same_some z y h)
  set_cases (x ∷ xs) zero (suc i) z y h = inl (λ e. omega (arith, e), h)
  set_cases (x ∷ xs) (suc k) zero z y h = inl (λ e. omega (arith, e), h)
  set_cases (x ∷ xs) (suc k) (suc i) z y h = elim (set_cases xs k i z y h) [ inl old ↦ inl (λ e. old.0 (omega (arith, e)), old.1) | inr new ↦ inr (ap suc new.0, new.1) ]

-- ---- what is behind a book

-- the entries of a legal history are past its end
module _ (g : Terrain) (horizon : ℕ) where
  first_past : (e : Entry) (p : Past) (es : List Entry) → IsAllowed g horizon p e → IsPast (fold followed_by p (e ∷ es)).era e
  first_past (E.Commit id era q w) p es may =
      let now = may.in_era in record { within = omega (arith, era-counts es (followed_by p (E.Commit id era q w))); over = λ no. absurd (cc) }
  first_past (E.Cancel id era) p es may =
      let now = may.in_era in
      let counts = era-counts es (followed_by p (E.Cancel id era)) in
      record { within = omega arith; over = λ no. omega arith }
  first_past (E.NoRoute stamp caller era q) p es may =
      let now = may.in_era in record { within = omega (arith, era-counts es (followed_by p (E.NoRoute stamp caller era q))); over = λ no. absurd (cc) }

  pub all_past : (es : List Entry) (p : Past) → EachFollows (IsAllowed g horizon) p es → All (IsPast (fold followed_by p es).era) es
  all_past [] p h = All-nil (IsPast p.era)
  all_past (e ∷ es) p h = All-cons (IsPast (fold followed_by p (e ∷ es)).era) e es (first_past e p es h.0) (all_past es (followed_by p e) h.1)

abbrev pub HasStampIn : ℕ → Entry → Type 0
HasStampIn n e = IfSome (reply_of e) (λ id. id.stamp ≤ n)

pub is_behind : (book : BookState) (era top : ℕ) (e : Entry) → era ≡ book.era → top ≡ book.stamp → IsPast era e → HasStampIn top e → IsBehind book e
is_behind book era top e era_is top_is past under = by_reply (reply_of e) refl under
  where
    by_reply : (r : Option RouteId) → reply_of e ≡ r → IfSome r (λ id. id.stamp ≤ top) → IsBehind book e
    by_reply None is low = let less = past.over is in inl (omega arith)
    by_reply (Some id) is low = elim (nat_cases (era_of e) era) [
      | inl less ↦ inl (omega arith)
      | inr over ↦ let within = past.within in inr (omega arith, (id, is, omega arith))
    ]

pub behind_more : (old new : BookState) (e : Entry) → old.era ≤ new.era → old.stamp ≤ new.stamp → IsBehind old e → IsBehind new e
behind_more old new e eras stamps (inl less) = inl (omega arith)
behind_more old new e eras stamps (inr (same, (id, is, low))) = elim (nat_cases old.era new.era) [ inl later ↦ inl (omega arith) | inr over ↦ inr (omega arith, (id, is, omega arith)) ]
