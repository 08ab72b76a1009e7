-- Each kind of step keeps the rule.
use Rattle.std.proofs.Common.{◌≡◌, ◌≢◌, ◌==◌, ℕ, zero, suc, ◌+◌, ◌<◌, ◌≤◌, true, false, List, [], ◌∷◌, ◌++◌, get_or, set, take, drop, refl, sym, ap, ◌∙◌, subst, ⊎_elim, arith, length-set, get_or-set_same, ne_eqb, eq-eqb, Some, None, true≢false}
use Rattle.std.specs.Prelude.{All, Contains}
use Rattle.std.specs.List.{range_with_len}
use Rattle.std.proofs.lemmas.List.Elements.{All-nil}
use mathlib.Core.Option.{none, some, some-injective, some-ne-none}
use mathlib.Core.Logic.{dite}
use native.Mathlib.Decide.{ℕ_discrete}
use lib.ListN.{get_elem?}
use lib.Seq.{set-get_or}
use prog.Atomic.{either}
use Rattle.atomic_table.specs.Table.{State, Me, step, keeps, takes, gives, stepped, rest, Allows, Splits, Joins, opening}
use Rattle.atomic_table.proofs.Lists.{at_set, at_snoc, at_longer, set_here, set_else, set_again}
use Rattle.fleet_base.specs.declared.request.Entry.{Entry}
use Rattle.fleet_base.specs.History.{caller_of}
use Rattle.plain_book.specs.BookState.{BookState}
use Rattle.book_trait.specs.Passes.{IsShared}
use Rattle.turn_book.specs.declared.rule.Layout.{Layout}
use Rattle.turn_book.specs.declared.rule.Known.{Known}
use Rattle.turn_book.specs.declared.rule.View.{View}
use Rattle.turn_book.specs.Turns.{Slot, kind_of, IsAfter, IsKnown, Fits, seats, total, IsHeld, Keeps, IsKept, first_view, Looks, NamesAnother, with_turn, without_turn, takes_turn, given, gives_turn, looked, looks, less_one, first_one, told_of, both, spent}
use Rattle.turn_book.proofs.Totals.{total_set, total_snoc, total_at, total_two, times-append, times_first, times_one, times_contained, each_once, dropped, taken}
use Rattle.turn_book.proofs.Knowing.{known_more, known_now, known_fewer, known_nothing, none_in_nil}

abbrev St : Type 0
St = State Slot View

at_again : (vs : List View) (id : ℕ) (v w : View) → get_elem? vs id ≡ some v → get_elem? (set vs id w) id ≡ some w
at_again [] id v w e = absurd (some-ne-none v (sym e))
at_again (x ∷ xs) zero v w e = refl
at_again (x ∷ xs) (suc id) v w e = at_again xs id v w e

-- all views fit after one of them has changed
views_set : (F : View → Type 0) (vs : List View) (id : ℕ) (w : View) → F w → ((j : ℕ) (u : View) → j ≢ id → get_elem? vs j ≡ some u → F u) → (j : ℕ) (u : View) → get_elem? (set vs id w) j ≡ some u → F u
views_set F vs id w mine others j u e = ⊎_elim (λ (t : (j ≡ id) × (w ≡ u)). subst F t.1 mine) (λ (t : (j ≢ id) × (get_elem? vs j ≡ some u)). others j u t.0 t.1) (at_set vs id j w u e)

-- who has the turn is another one
apart : (vs : List View) (id j : ℕ) (v u : View) → get_elem? vs id ≡ some v → v.holds ≡ false → get_elem? vs j ≡ some u → u.holds ≡ true → j ≢ id
apart vs id j v u at off there on e =
    let same : u ≡ v = some-injective u v (sym there ∙ (ap (get_elem? vs) e ∙ at)) in
    true≢false (sym on ∙ (ap (λ (x : View). x.holds) same ∙ off))

held_set : (vs : List View) (id : ℕ) (v w : View) → get_elem? vs id ≡ some v → v.holds ≡ false → IsHeld vs → IsHeld (set vs id w)
held_set vs id v w at off (j, u, there, on) = (j, u, set_else vs id j w (apart vs id j v u at off there on) ∙ there, on)

-- the view of a seat without the turn has changed
keeps_set : (k : Layout) (list : List Entry) (s : St) (id : ℕ) (v w : View) → Keeps k list s → get_elem? s.views id ≡ some v → v.holds ≡ false → Fits k (get_or s.words 0 0) list w
    → ((c : ℕ) → seats c w ≤ seats c v) → Keeps k list record { words = s.words; homes = s.homes; views = set s.views id w }
keeps_set k list s id v w r at off fits fewer = record {
  shared = r.shared;
  wide = r.wide;
  slots = r.slots;
  free = r.free;
  held = λ ne. held_set s.views id v w at off (r.held ne);
  once = λ c. (let t = total_set (seats c) s.views id v w at in let o = r.once c in let l = fewer c in omega arith);
  views = views_set (Fits k (get_or s.words 0 0) list) s.views id w fits (λ j u ne e. r.views j u e);
}

keeps_snoc : (k : Layout) (list : List Entry) (s : St) (w : View) → Keeps k list s → Fits k (get_or s.words 0 0) list w → ((c : ℕ) → total (seats c) s.views + seats c w ≤ 1)
    → Keeps k list record { words = s.words; homes = s.homes; views = s.views ++ w ∷ [] }
keeps_snoc k list s w r fits once = record {
  shared = r.shared;
  wide = r.wide;
  slots = r.slots;
  free = r.free;
  held = λ ne. (let h = r.held ne in (h.0, h.1, at_longer s.views (w ∷ []) h.0 h.1 h.2, h.3));
  once = λ c. (let t = total_snoc (seats c) s.views w in let o = once c in omega arith);
  views = λ j u e. ⊎_elim (λ (h : get_elem? s.views j ≡ some u). r.views j u h) (λ (h : w ≡ u). subst (Fits k (get_or s.words 0 0) list) h fits) (at_snoc s.views w u j e);
}

looks_at : (k : Layout) (word : ℕ) (list : List Entry) (v : View) → v.layout ≡ k → IsShared (kind_of k) list → Fits k word list v → Looks v list
looks_at k word list v e shared f = record { shared = subst (λ (x : Layout). IsShared (kind_of x) list) (sym e) shared; mine = f.mine; heard = f.heard }

-- the word as it was, and the view changed
abbrev unchanged : (k : Layout) (s : St) (id : ℕ) (w : View) → Type 0
unchanged k s id w = IsKept k record { words = set s.words 0 (get_or s.words 0 0); homes = s.homes; views = set s.views id w }

same_word : (k : Layout) (s : St) (id n : ℕ) (w : View) → n ≡ get_or s.words 0 0 → IsKept k record { words = s.words; homes = s.homes; views = set s.views id w } → IsKept k record { words = set s.words 0 n; homes = s.homes; views = set s.views id w }
same_word k s id n w e r = subst (λ (z : List ℕ). IsKept k record { words = z; homes = s.homes; views = set s.views id w }) (sym (ap (set s.words 0) e ∙ set-get_or s.words 0 0)) r

pub allows_look : (k : Layout) (slots id : ℕ) (me : Me Slot View) → me.0.layout ≡ k → me.0.holds ≡ false → Allows (IsKept k) slots id me 0 (λ n. n) (looks (step slots 0 0 0 none) me)
allows_look k slots id me is off s (list, r) _ at _ =
    let v : View = me.0 in
    let f = r.views id v at in
    let w : View = looked v list in (
      w,
      keeps,
      tt,
      same_word k s id (get_or s.words 0 0) w refl (
        list,
        keeps_set k list s id v w r at off
            record { layout = f.layout; mine = known_now (v.mine.callers ++ v.heard.callers) list; heard = known_nothing list; turn = λ q. absurd (true≢false (sym q ∙ off)) }
            (λ c. omega (arith, times-append c v.mine.callers v.heard.callers)),
      ),
      (looks_at k (get_or s.words 0 0) list v is r.shared f, refl),
    )

-- which caller has the turn, where it isn't the view at id
named_another : (k : Layout) (list : List Entry) (s : St) (id : ℕ) (v : View) → Keeps k list s → get_elem? s.views id ≡ some v → v.holds ≡ false → get_or s.words 0 0 ≢ 0 → NamesAnother k.callers v.mine.callers (get_or s.words 0 0)
named_another k list s id v r at off ne =
    let h = r.held ne in
    let u : View = h.1 in
    let t = (r.views h.0 u h.2).turn h.3 in record {
      other = t.caller;
      low = t.low;
      not_mine = λ there. (
          let o = r.once t.caller in
          let mine = times_contained t.caller v.mine.callers there in
          let theirs = times_one t.caller u.mine.callers t.callers in
          let two = total_two (seats t.caller) s.views h.0 id u v (apart s.views id h.0 v u at off h.2 h.3) h.2 at in omega arith);
      word_is = t.word_is;
    }

module _ (k : Layout) (list : List Entry) (s : St) (id c : ℕ) (v : View) (r : Keeps k list s) (at : get_elem? s.views id ≡ some v) (callers : v.mine.callers ≡ c ∷ []) where
  keeps_taken : c < k.callers → get_or s.words 0 0 ≡ 0 → Keeps k list record { words = set s.words 0 (c + 1); homes = set s.homes 0 none; views = set s.views id (with_turn v list) }
  keeps_taken low hit =
      let wide = r.wide in
      let f = r.views id v at in
      let w : View = with_turn v list in
      let now : get_or (set s.words 0 (c + 1)) 0 0 ≡ c + 1 = get_or-set_same s.words 0 (c + 1) 0 (omega arith) in record {
        shared = r.shared;
        wide = length-set s.words 0 (c + 1) ∙ r.wide;
        slots = length-set s.homes 0 none ∙ r.slots;
        free = λ z. absurd (omega arith);
        held = λ _. (id, w, at_again s.views id v w at, refl);
        once = λ x. (let t = total_set (seats x) s.views id v w at in let o = r.once x in omega arith);
        views = subst (λ (n : ℕ). (j : ℕ) (u : View) → get_elem? (set s.views id w) j ≡ some u → Fits k n list u) (sym now)
            (views_set (Fits k (c + 1) list) s.views id w
            record { layout = f.layout; mine = known_now v.mine.callers list; heard = f.heard; turn = λ _. record { caller = c; callers = callers; low = low; word_is = refl; seen = refl } }
            (λ j u ne e. let g = r.views j u e in record { layout = g.layout; mine = g.mine; heard = g.heard; turn = λ q. let t1 = (g.turn q).word_is in absurd (omega arith) }));
      }

pub allows_take : (k : Layout) (slots id c : ℕ) (me : Me Slot View) → me.0.layout ≡ k → me.0.holds ≡ false → me.0.mine.callers ≡ c ∷ [] → c < k.callers
    → Allows (IsKept k) slots id me 0 (λ n. either (n == 0) (c + 1) n) (takes_turn (step slots 0 0 (c + 1) none) me)
allows_take k slots id c me is off callers low s (list, r) _ at _ =
    let v : View = me.0 in
    let n : ℕ = get_or s.words 0 0 in
    let f = r.views id v at in
    dite (ℕ_discrete n 0)
    (λ hit. let h = r.free hit in let b : BookState = h.0 in
    let new : either (n == 0) (c + 1) n ≡ c + 1 = ap (λ z. either z (c + 1) n) (eq-eqb n 0 hit) in (
      with_turn v list,
      takes 0 (Some b),
      h.1,
      (list, subst (λ (z : ℕ). Keeps k list record { words = set s.words 0 z; homes = set s.homes 0 none; views = set s.views id (with_turn v list) }) (sym new) (keeps_taken k list s id c v r at callers low hit)),
      record { hit = λ _. (b, looks_at k n list v is r.shared f, subst (λ (x : Layout). IsAfter x list b) (sym is) h.2, refl); miss = λ x. absurd (x hit) },
    ))
    (λ miss. let old : either (n == 0) (c + 1) n ≡ n = ap (λ z. either z (c + 1) n) (ne_eqb n 0 miss) in
    let w : View = without_turn v n in (
      w,
      keeps,
      tt,
      same_word k s id (either (n == 0) (c + 1) n) w old (list, keeps_set k list s id v w r at off record { layout = f.layout; mine = f.mine; heard = f.heard; turn = λ q. absurd (true≢false (sym q ∙ off)) } (λ x. omega arith)),
      record { hit = λ x. absurd (miss x); miss = λ _. (refl, subst (λ (x : Layout). NamesAnother x.callers v.mine.callers n) (sym is) (named_another k list s id v r at off miss)) },
    ))

-- The turn is given back.
same_head : (a b : ℕ) (xs : List ℕ) → xs ≡ a ∷ [] → xs ≡ b ∷ [] → a ≡ b
same_head a b xs e f = let both : a ∷ [] ≡ b ∷ [] = sym e ∙ f in ap (λ (l : List ℕ). get_or l 0 0) both

module _ (k : Layout) (list more : List Entry) (s : St) (id c full : ℕ) (v : View) (r : Keeps k list s) (at : get_elem? s.views id ≡ some v) (callers : v.mine.callers ≡ c ∷ []) (by : All (λ e. caller_of e ≡ c) more) where
  -- the caller is no other view's, and stands in none twice
  no_other : (j : ℕ) (u : View) → j ≢ id → get_elem? s.views j ≡ some u → 1 ≤ seats c u → ⊥
  no_other j u ne there some_seat =
      let o = r.once c in
      let mine = times_one c v.mine.callers callers in
      let two = total_two (seats c) s.views j id u v ne there at in omega arith

  not_heard : ¬ (Contains v.heard.callers c)
  not_heard there =
      let o = r.once c in
      let mine = times_one c v.mine.callers callers in
      let twice = times_contained c v.heard.callers there in
      let one = total_at (seats c) s.views id v at in omega arith

  keeps_given : (b : BookState) → v.holds ≡ true → IsShared (kind_of k) (v.mine.seen ++ more) → IsAfter k (v.mine.seen ++ more) b
      → Keeps k (v.mine.seen ++ more) record { words = set s.words 0 0; homes = set s.homes 0 (some (Some b)); views = set s.views id (given v more full) }
  keeps_given b on shared after =
      let wide = r.wide in
      let slots = r.slots in
      let f = r.views id v at in
      let t = f.turn on in
      let word = t.word_is in
      let mine : c ≡ t.caller = same_head c t.caller v.mine.callers callers t.callers in
      let w : View = given v more full in
      let longer : List Entry = v.mine.seen ++ more in
      let grown : (x : Known) → IsKnown x list → ¬ (Contains x.callers c) → IsKnown x longer = (λ x known other. known_more x v.mine.seen more c by other (subst (IsKnown x) (sym t.seen) known)) in
      let now : get_or (set s.words 0 0) 0 0 ≡ 0 = get_or-set_same s.words 0 0 0 (omega arith) in record {
        shared = shared;
        wide = length-set s.words 0 0 ∙ r.wide;
        slots = length-set s.homes 0 (some (Some b)) ∙ r.slots;
        free = λ z. (b, set_here s.homes 0 (some (Some b)) (omega arith), after);
        held = λ ne. absurd (ne now);
        once = λ x. (let q = total_set (seats x) s.views id v w at in let o = r.once x in omega arith);
        views = subst (λ (n : ℕ). (j : ℕ) (u : View) → get_elem? (set s.views id w) j ≡ some u → Fits k n longer u) (sym now)
            (views_set (Fits k 0 longer) s.views id w
            record { layout = f.layout; mine = known_now v.mine.callers longer; heard = grown v.heard f.heard not_heard; turn = λ q. absurd (true≢false (sym q)) }
            (λ j u ne e. let g = r.views j u e in record {
              layout = g.layout;
              mine = grown u.mine g.mine (λ there. no_other j u ne e (let x = times_contained c u.mine.callers there in omega arith));
              heard = grown u.heard g.heard (λ there. no_other j u ne e (let x = times_contained c u.heard.callers there in omega arith));
              turn = λ q. (let t2 = g.turn q in let word2 = t2.word_is in
                  let same : t2.caller ≡ c = omega arith in
                  absurd (no_other j u ne e (let x = times_one c u.mine.callers (t2.callers ∙ ap (λ (d : ℕ). d ∷ []) same) in omega arith)));
            }));
      }

pub allows_give : (k : Layout) (slots id c full : ℕ) (more : List Entry) (me : Me Slot View) (b : BookState) → me.0.holds ≡ true → me.0.mine.callers ≡ c ∷ [] → me.1 ≡ (0, Some b) ∷ []
    → All (λ e. caller_of e ≡ c) more → IsShared (kind_of k) (me.0.mine.seen ++ more) → IsAfter k (me.0.mine.seen ++ more) b
    → Allows (IsKept k) slots id me 0 (λ n. either (n == c + 1) 0 n) (gives_turn more full (step slots 0 (c + 1) 0 none) me)
allows_give k slots id c full more me b on callers slot by shared after s (list, r) _ at _ =
    let v : View = me.0 in
    let n : ℕ = get_or s.words 0 0 in
    let w : View = given v more full in
    let t = (r.views id v at).turn on in
    let word = t.word_is in
    let mine : c ≡ t.caller = same_head c t.caller v.mine.callers callers t.callers in
    let hit : n ≡ c + 1 = omega arith in
    let new : either (n == c + 1) 0 n ≡ 0 = ap (λ z. either z 0 n) (eq-eqb n (c + 1) hit) in (
      w,
      gives,
      tt,
      subst (λ (z : ℕ × List (ℕ × Slot)). IsKept k (stepped s 0 z.0 id z.1 w gives)) (λ i. (sym new i, sym slot i)) (v.mine.seen ++ more, keeps_given k list more s id c full v r at callers by b on shared after),
      ap (λ l. (w, rest l)) slot,
    )

-- the same of a seat whose slot has just been filled, with the entries that the step is told
pub allows_said : (k : Layout) (slots id c full : ℕ) (told more : List Entry) (old me : Me Slot View) (b : BookState) → told ≡ more → me ≡ (old.0, (0, Some b) ∷ rest old.1) → old.1 ≡ (0, None) ∷ [] → old.0.holds ≡ true → old.0.mine.callers ≡ c ∷ []
    → All (λ e. caller_of e ≡ c) more → IsShared (kind_of k) (old.0.mine.seen ++ more) → IsAfter k (old.0.mine.seen ++ more) b
    → Allows (IsKept k) slots id me 0 (λ n. either (n == c + 1) 0 n) (gives_turn told full (step slots 0 (c + 1) 0 none) me)
allows_said k slots id c full told more old me b said is slot on callers by shared after =
    let filled : me ≡ (old.0, (0, Some b) ∷ []) = is ∙ ap (λ (l : List (ℕ × Slot)). (old.0, (0, Some b) ∷ rest l)) slot in
    subst (λ (x : List Entry × Me Slot View). Allows (IsKept k) slots id x.1 0 (λ n. either (n == c + 1) 0 n) (gives_turn x.0 full (step slots 0 (c + 1) 0 none) x.1)) (λ i. (sym said i, sym filled i))
    (allows_give k slots id c full more (old.0, (0, Some b) ∷ []) b on callers refl by shared after)

-- A view is cut in two, or takes another in.
pub splits_first : (k : Layout) (id : ℕ) (v : View) → v.holds ≡ false → Splits (IsKept k) id v (less_one v) (first_one v)
splits_first k id v off s (list, r) at =
    let f = r.views id v at in (
      list,
      keeps_snoc k list record { words = s.words; homes = s.homes; views = set s.views id (less_one v) } (first_one v)
          (keeps_set k list s id v (less_one v) r at off
          record { layout = f.layout; mine = known_fewer v.mine (drop 1 v.mine.callers) list (dropped v.mine.callers) f.mine; heard = f.heard; turn = λ q. absurd (true≢false (sym q ∙ off)) }
          (λ c. omega (arith, times_first c v.mine.callers)))
          record { layout = f.layout; mine = known_fewer v.mine (take 1 v.mine.callers) list (taken v.mine.callers) f.mine; heard = known_nothing list; turn = λ q. absurd (true≢false (sym q ∙ off)) }
          (λ c. let t = total_set (seats c) s.views id v (less_one v) at in let o = r.once c in let p = times_first c v.mine.callers in omega arith),
    )

pub splits_told : (k : Layout) (id : ℕ) (v : View) → v.holds ≡ false → Splits (IsKept k) id v v (told_of v)
splits_told k id v off s (list, r) at =
    let f = r.views id v at in (
      list,
      subst (λ (vs : List View). Keeps k list record { words = s.words; homes = s.homes; views = vs ++ told_of v ∷ [] }) (sym (set_again s.views id v at))
          (keeps_snoc k list s (told_of v) r
          record { layout = f.layout; mine = known_fewer v.mine [] list (λ c there. absurd (none_in_nil c there)) f.mine; heard = known_nothing list; turn = λ q. absurd (true≢false (sym q ∙ off)) }
          (λ c. let o = r.once c in omega arith)),
    )

pub joins_both : (k : Layout) (id : ℕ) (v : View) (other : ℕ) (w : View) → v.holds ≡ false → w.holds ≡ false → Joins (IsKept k) id v other w (both v w) spent
joins_both k id v other w off idle s (list, r) at ne there =
    let b : View = both v w in
    let ws : List View = set s.views id b in
    let there0 : get_elem? s.views other ≡ some w = sym (set_else s.views id other b ne) ∙ there in
    let f = r.views id v at in
    let g = r.views other w there0 in (
      list,
      record {
        shared = r.shared;
        wide = r.wide;
        slots = r.slots;
        free = r.free;
        held = λ word. held_set ws other w spent there idle (held_set s.views id v b at off (r.held word));
        once = λ c. (let t = total_set (seats c) s.views id v b at in let u = total_set (seats c) ws other w spent there in let o = r.once c in omega arith);
        views = views_set (Fits k (get_or s.words 0 0) list) ws other spent
            record { layout = λ q. absurd (true≢false (sym q)); mine = known_nothing list; heard = known_nothing list; turn = λ q. absurd (true≢false (sym q)) }
            (λ j u apart e. views_set (Fits k (get_or s.words 0 0) list) s.views id b
            record { layout = f.layout; mine = f.mine; heard = g.mine; turn = λ q. absurd (true≢false (sym q ∙ off)) }
            (λ i x apart at. r.views i x at) j u e);
      },
    )

-- the table at the start
pub opens : (k : Layout) (b : BookState) → IsAfter k [] b → Keeps k [] (opening (0 ∷ []) (Some b ∷ []) (first_view k))
opens k b after = record {
  shared = record { strong = tt; counted = tt; callers = All-nil (λ (e : Entry). caller_of e < k.callers) };
  wide = refl;
  slots = refl;
  free = λ z. (b, refl, after);
  held = λ ne. absurd (ne refl);
  once = λ c. omega (arith, each_once c 0 k.callers);
  views = λ id v e. start id v e;
}
  where
    start : (id : ℕ) (v : View) → get_elem? (first_view k ∷ []) id ≡ some v → Fits k 0 [] v
    start zero v e = subst (Fits k 0 []) (some-injective _ _ e) record { layout = λ _. refl; mine = known_now (range_with_len 0 k.callers) []; heard = known_nothing []; turn = λ q. absurd (true≢false (sym q)) }
    start (suc id) v e = absurd (some-ne-none v (sym e))
