-- Good words and files are answered.
use Rattle.std.proofs.Common.{◌≡◌, ℕ, List, [], ◌∷◌, ◌++◌, length, Option, Some, None, Result, Ok, Err, refl, sym, ap, subst, ◌∙◌, inl, inr, arith}
use Rattle.std.proofs.lemmas.List.{length-append}
use Rattle.std.proofs.lemmas.Option.{same_Some}
use Rattle.fleet_base.specs.Terrain.{Terrain}
use Rattle.fleet_io.specs.Files.{NamedFile, IsFetched, IsTooLong}
use Rattle.text_lines.specs.Lines.{lines_of}
use Rattle.text_lines.specs.Faults.{Fault}
use Rattle.map_text.specs.declared.fault.MapKind.{MapKind}
use Rattle.map_text.specs.MapGrammar.{map_of}
use Rattle.scen_text.specs.declared.fault.ScenKind.{ScenKind}
use Rattle.scen_text.specs.ScenGrammar.{scenario_of}
use Rattle.order_text.specs.declared.fault.OrderKind.{OrderKind}
use Rattle.order_text.specs.OrderGrammar.{orders_of}
use Rattle.book_trait.specs.Passes.{JoinedView}
use Rattle.command_line.specs.declared.command.Command.{Command}
use Rattle.command_line.specs.declared.command.Command.TheVariants.{One, Run, Orders, Gen, Check, Long, Turns}
use Rattle.command_line.specs.Sorting.{Word}
use Rattle.fleet_run.specs.declared.outcome.Outcome.{Outcome}
use Rattle.fleet_run.specs.declared.outcome.Outcome.TheVariants as outcomes
use Rattle.fleet_run.specs.declared.stop.Stop.{Stop}
use Rattle.fleet_run.specs.declared.stop.Stop.TheVariants as stops
use Rattle.fleet_run.specs.Stopped.{outcome_of}
use Rattle.fleet_run.specs.Files.{map_limit, second_limit, IsMapRead, IsMapRefused, IsScenRefused, IsOrdersRefused}
use Rattle.fleet_run.specs.Due.{AreInside}
use Rattle.fleet_run.specs.Ended.{World, IsAsked, HasBadMap, HasPlaceOutside, HasBadScenario, HasBadOrders, HasCauseIn, HasStopped, HasStoppedAs, HasEndedShort, HasEnded}
use Rattle.fleet_run.specs.Good.{HasFile, HasMap, HasScenario, HasOrders, AreAccepted, IsGood, Completes}

longer : (xs : List Word) (x : Word) → xs ≡ xs ++ x ∷ [] → ⊥
longer xs x e = omega (arith, ap length e, length-append xs (x ∷ []))

same_command : (words : List Word) (a b : Command Word) → IsAsked words a → IsAsked words b → a ≡ b
same_command words a b x y = same_Some a b (sym x ∙ y)

-- ---- files

module _ (files : List NamedFile) (name : Word) (limit : ℕ) (bytes : List ℕ) (file : HasFile files name limit bytes) where
  same_bytes : (other : List ℕ) → IsFetched (Some files) name limit other → bytes ≡ other
  same_bytes other fetched = same_Some bytes other (sym file.content ∙ fetched.1)

  not_long : IsTooLong (Some files) name limit → ⊥
  not_long long =
      let b : length bytes ≡ length long.0 = ap length (same_Some bytes long.0 (sym file.content ∙ long.1)) in
      omega (arith, b, file.short, long.2)

ok_err : {A K : Type 0} (r : Result A (Fault K)) (a : A) (e : Fault K) → r ≡ Ok a → r ≡ Err e → ⊥
ok_err r a e x y = let clash = sym x ∙ y in cc

same_ok : {A K : Type 0} (r : Result A (Fault K)) (a b : A) → r ≡ Ok a → r ≡ Ok b → a ≡ b
same_ok r a b x y = let same = sym x ∙ y in cc

map_accepted : (files : List NamedFile) (name : Word) (g : Terrain) (line : ℕ) (kind : MapKind) → HasMap files name g → IsMapRefused (Some files) name line kind → ⊥
map_accepted files name g line kind has (inl long) = not_long files name map_limit has.bytes has.file long.0
map_accepted files name g line kind has (inr bad) =
    ok_err (map_of (lines_of has.bytes)) g _ has.read (ap (λ (b : List ℕ). map_of (lines_of b)) (same_bytes files name map_limit has.bytes has.file bad.0 bad.1) ∙ bad.2)

same_map : (files : List NamedFile) (name : Word) (g h : Terrain) → HasMap files name g → IsMapRead (Some files) name h → g ≡ h
same_map files name g h has read =
    same_ok (map_of (lines_of has.bytes)) g h has.read (ap (λ (b : List ℕ). map_of (lines_of b)) (same_bytes files name map_limit has.bytes has.file read.bytes read.fetched) ∙ read.read)

scenario_accepted : (files : List NamedFile) (name : Word) (g : Terrain) (kept : Option ℕ) (line : ℕ) (kind : ScenKind) → HasScenario files name g kept → IsScenRefused (Some files) name g kept line kind → ⊥
scenario_accepted files name g kept line kind has (inl long) = not_long files name second_limit has.bytes has.file long.0
scenario_accepted files name g kept line kind has (inr bad) =
    ok_err (scenario_of g kept (lines_of has.bytes)) has.requests _ has.read (ap (λ (b : List ℕ). scenario_of g kept (lines_of b)) (same_bytes files name second_limit has.bytes has.file bad.0 bad.1) ∙ bad.2)

orders_accepted : (files : List NamedFile) (name : Word) (g : Terrain) (line : ℕ) (kind : OrderKind) → HasOrders files name g → IsOrdersRefused (Some files) name g line kind → ⊥
orders_accepted files name g line kind has (inl long) = not_long files name second_limit has.bytes has.file long.0
orders_accepted files name g line kind has (inr bad) =
    ok_err (orders_of g (lines_of has.bytes)) has.lanes _ has.read (ap (λ (b : List ℕ). orders_of g (lines_of b)) (same_bytes files name second_limit has.bytes has.file bad.0 bad.1) ∙ bad.2)

-- ---- commands

no_bad_map : (files : List NamedFile) (c : Command Word) (line : ℕ) (kind : MapKind) → AreAccepted files c → HasBadMap (Some files) c line kind → ⊥
no_bad_map files (One m a b x y) line kind has bad = map_accepted files m has.0 line kind has.1 (subst (λ (n : Word). IsMapRefused (Some files) n line kind) (sym (same_Some m bad.name bad.named)) bad.refused)
no_bad_map files (Run m s w h t) line kind has bad = map_accepted files m has.0 line kind has.1 (subst (λ (n : Word). IsMapRefused (Some files) n line kind) (sym (same_Some m bad.name bad.named)) bad.refused)
no_bad_map files (Orders m o w h) line kind has bad = map_accepted files m has.0 line kind has.1 (subst (λ (n : Word). IsMapRefused (Some files) n line kind) (sym (same_Some m bad.name bad.named)) bad.refused)
no_bad_map files (Gen w h p n s k l) line kind has bad = let e = bad.named in absurd cc
no_bad_map files (Check m o j h) line kind has bad = has
no_bad_map files (Long m o h) line kind has bad = has
no_bad_map files (Turns m o h) line kind has bad = has

no_place_outside : (files : List NamedFile) (c : Command Word) → AreAccepted files c → HasPlaceOutside (Some files) c → ⊥
no_place_outside files c has bad = go bad.name bad.from bad.to bad.grid (subst (AreAccepted files) bad.is_one has) bad.map bad.outside
  where
    go : (name : Word) (from to : ℕ × ℕ) (h : Terrain) → AreAccepted files (One name from.0 from.1 to.0 to.1) → IsMapRead (Some files) name h → ¬ (AreInside h from to) → ⊥
    go name from to h good read off = off (subst (λ (g : Terrain). AreInside g from to) (same_map files name good.0 h good.1 read) good.2)

no_bad_scenario : (files : List NamedFile) (c : Command Word) (line : ℕ) (kind : ScenKind) → AreAccepted files c → HasBadScenario (Some files) c line kind → ⊥
no_bad_scenario files c line kind has bad = go (subst (AreAccepted files) bad.is_run has)
  where
    go : AreAccepted files (Run bad.name bad.scenario bad.workers bad.horizon bad.kept) → ⊥
    go good = scenario_accepted files bad.scenario bad.grid bad.kept line kind
        (subst (λ (g : Terrain). HasScenario files bad.scenario g bad.kept) (same_map files bad.name good.0 bad.grid good.1 bad.map) good.2) bad.refused

no_bad_orders : (files : List NamedFile) (c : Command Word) (line : ℕ) (kind : OrderKind) → AreAccepted files c → HasBadOrders (Some files) c line kind → ⊥
no_bad_orders files c line kind has bad = go (subst (AreAccepted files) bad.are_orders has)
  where
    go : AreAccepted files (Orders bad.name bad.orders bad.workers bad.horizon) → ⊥
    go good = orders_accepted files bad.orders bad.grid line kind
        (subst (λ (g : Terrain). HasOrders files bad.orders g) (same_map files bad.name good.0 bad.grid good.1 bad.map) good.2) bad.refused

only_memory_in : (files : List NamedFile) (c : Command Word) (failed now : List Word) (stop : Stop Word) → AreAccepted files c → HasCauseIn (λ n. n) (Some files) c failed now stop → now ≡ failed → outcome_of stop ≡ outcomes.Memory
only_memory_in files c failed now stops.NoCommand has h same = absurd h
only_memory_in files c failed now (stops.MapRefused line kind) has h same = absurd (no_bad_map files c line kind has h.0)
only_memory_in files c failed now stops.OutsideMap has h same = absurd (no_place_outside files c has h.0)
only_memory_in files c failed now (stops.ScenRefused line kind) has h same = absurd (no_bad_scenario files c line kind has h.0)
only_memory_in files c failed now (stops.OrdersRefused line kind) has h same = absurd (no_bad_orders files c line kind has h.0)
only_memory_in files c failed now (stops.NotFetched name) has h same = absurd (longer failed name (sym same ∙ h.1))
only_memory_in files c failed now stops.NoMemory has h same = refl

module _ (words : List Word) (files : List NamedFile) (good : IsGood words files) (failed now : List Word) (same : now ≡ failed) where
  in_command : (stop : Stop Word) (c : Command Word) → IsAsked words c → HasCauseIn (λ n. n) (Some files) c failed now stop → outcome_of stop ≡ outcomes.Memory
  in_command stop c asked h = only_memory_in files c failed now stop (subst (AreAccepted files) (same_command words good.command c good.asked asked) good.accepted) h same

  only_memory : (stop : Stop Word) → HasStopped (λ n. n) words (Some files) failed now stop → outcome_of stop ≡ outcomes.Memory
  only_memory stops.NoCommand h = let clash : Some good.command ≡ None = sym good.asked ∙ h.0 in absurd cc
  only_memory (stops.MapRefused line kind) h = in_command (stops.MapRefused line kind) h.0 h.1 h.2
  only_memory stops.OutsideMap h = in_command stops.OutsideMap h.0 h.1 h.2
  only_memory (stops.ScenRefused line kind) h = in_command (stops.ScenRefused line kind) h.0 h.1 h.2
  only_memory (stops.OrdersRefused line kind) h = in_command (stops.OrdersRefused line kind) h.0 h.1 h.2
  only_memory (stops.NotFetched name) h = in_command (stops.NotFetched name) h.0 h.1 h.2
  only_memory stops.NoMemory h = refl

-- ---- the call

stop_completes : (words : List Word) (u v : World) (o : Outcome) → HasStoppedAs words u v o → Completes words u v o
stop_completes words u v o (stop, is, cause, out, err) = λ files told good same calm.
    let c = subst (λ (f : Option (List NamedFile)). HasStopped (λ n. n) words f u.failed v.failed stop) told cause in
    inr (is ∙ only_memory words files good u.failed v.failed same stop c)

short_completes : (words : List Word) (u v : World) (o : Outcome) → HasEndedShort words u v o → Completes words u v o
short_completes words u v outcomes.Done h = absurd h
short_completes words u v outcomes.WriteFault h = λ files told good same calm. absurd (calm h.1)
short_completes words u v outcomes.Usage h = stop_completes words u v outcomes.Usage h
short_completes words u v outcomes.MapBad h = stop_completes words u v outcomes.MapBad h
short_completes words u v outcomes.OrdersBad h = stop_completes words u v outcomes.OrdersBad h
short_completes words u v outcomes.ReadFault h = stop_completes words u v outcomes.ReadFault h
short_completes words u v outcomes.Memory h = λ files told good same calm. inr refl

pub completes : (words : List Word) (u v : World) (o : Outcome) (joined : Option JoinedView) → HasEnded words u v o joined → Completes words u v o
completes words u v outcomes.Done joined h = λ files told good same calm. inl refl
completes words u v outcomes.WriteFault joined h = short_completes words u v outcomes.WriteFault h.0
completes words u v outcomes.Usage joined h = short_completes words u v outcomes.Usage h.0
completes words u v outcomes.MapBad joined h = short_completes words u v outcomes.MapBad h.0
completes words u v outcomes.OrdersBad joined h = short_completes words u v outcomes.OrdersBad h.0
completes words u v outcomes.ReadFault joined h = short_completes words u v outcomes.ReadFault h.0
completes words u v outcomes.Memory joined h = short_completes words u v outcomes.Memory h.0
