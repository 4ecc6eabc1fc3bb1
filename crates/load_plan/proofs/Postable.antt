-- The lines of a generated script can be posted, and its calls are counted.
use Rattle.std.proofs.{Common.{◌≡◌, ◌<◌, ◌≤◌, ◌+◌, ◌%◌, ◌==◌, ◌||◌, ℕ, zero, suc, Bool, true, false, cond, All, List, [], ◌∷◌, ◌++◌, length, length-append, refl, sym, subst, ◌∙◌, arith}, lemmas.List.Elements.{All-append, All-cons, All-nil, All-weaker}, lemmas.List.Folds.list_any_none}
use Rattle.std.specs.List.{list_any}
use Rattle.ason_base.specs.{declared.limits.TheConstants.MOST_NODES, Network.Network, declared.ids.CallNo.CallNo}
use Rattle.mesh_rules.proofs.Topologies.{topology_searchable}
use Rattle.plan_reader.specs.{Plans.{ArePostable, HasNames, IsPostable, calls_after_lines}, declared.lines.Line.Line, declared.lines.Line.TheVariants.Settle}
use Rattle.load_plan.specs.{Draws.next, LoadParts.load_plan_of, Names.names_from, Networks.{after_network, drawn_network}, Setups.{from_of, setup_at, setups_from, to_of}, declared.names.Named.Named, declared.names.Named.TheVariants.{Node, Call}}
use Rattle.load_plan.proofs.{OtherEnds.{ends_differ, from_below, to_below}, Topologies.{is_topology, node_count, node_is}}

-- all these call numbers are below i
abbrev AreBelow : ℕ → List CallNo → Type 0
AreBelow i calls = All (λ c. c.0 < i) calls

abbrev call_at : ℕ → CallNo
call_at i = record { 0 = i }

-- the next call number is new
is_new : (i : ℕ) (before : List CallNo) → AreBelow i before → list_any (λ m. m.0 == i) before ≡ false
is_new i before below =
    list_any_none (λ m. m.0 == i) before (All-weaker (λ m. m.0 < i) _ (λ m h. other m.0 h) before below)
  where
    other : (a : ℕ) → a < i → (a == i) ≡ false
    other a h = grind arith

below_more : (i : ℕ) (before : List CallNo) → AreBelow i before → AreBelow (i + 1) (before ++ call_at i ∷ [])
below_more i before below =
    All-append (λ m. m.0 < i + 1) before (call_at i ∷ [])
    (All-weaker (λ m. m.0 < i) (λ m. m.0 < i + 1) (λ m h. omega arith) before below)
    (All-cons (λ m. m.0 < i + 1) (call_at i) [] (omega arith) (All-nil (λ m. m.0 < i + 1)))

-- a setup whose number is new can be posted
setup_posts :
    (n seed i x : ℕ) (before : List CallNo) → 4 ≤ n → n ≤ MOST_NODES → AreBelow i before
    → IsPostable (drawn_network n seed) before (setup_at n i x)
setup_posts n seed i x before four most below =
    let from = node_is n seed (from_of n x + 1) (omega arith) (within (from_of n x) (from_below n x four)) in
    let to = node_is n seed (to_of n x + 1) (omega arith) (within (to_of n x) (to_below n x four)) in
    let differ = ends_differ n x four in
    let searchable = topology_searchable (drawn_network n seed) (is_topology n seed four most) in
    (rw (from, to, differ, searchable) refl, is_new i before below)
  where
    within : (a : ℕ) → a < n → a + 1 ≤ n
    within a h = omega arith

-- a settle follows the setup at this place
abbrev is_settled : ℕ → ℕ → Bool
is_settled calls i = ((i + 1) % 16 == 0) || (i + 1 == calls)

posts_past_settle :
    (t : Network) (before : List CallNo) (b : Bool) (lines : List Line) → ArePostable t before lines
    → ArePostable t before (cond b (Settle 1000 ∷ []) [] ++ lines)
posts_past_settle t before true lines h = (tt, h)
posts_past_settle t before false lines h = h

calls_past_settle :
    (before : List CallNo) (b : Bool) (lines : List Line)
    → calls_after_lines before (cond b (Settle 1000 ∷ []) [] ++ lines) ≡ calls_after_lines before lines
calls_past_settle before true lines = refl
calls_past_settle before false lines = refl

-- the setups from any place on can be posted behind calls of lesser numbers
setups_post :
    (n seed calls i k x : ℕ) (before : List CallNo) → 4 ≤ n → n ≤ MOST_NODES → AreBelow i before
    → ArePostable (drawn_network n seed) before (setups_from n calls i k x)
setups_post n seed calls i zero x before four most below = tt
setups_post n seed calls i (suc k) x before four most below = (
  setup_posts n seed i x before four most below,
  posts_past_settle (drawn_network n seed) (before ++ call_at i ∷ []) (is_settled calls i) _
      (setups_post n seed calls (i + 1) k (next (next x)) (before ++ call_at i ∷ []) four most
      (below_more i before below)),
)

-- so many setups post so many calls
setups_counted :
    (n calls i k x : ℕ) (before : List CallNo)
    → length (calls_after_lines before (setups_from n calls i k x)) ≡ length before + k
setups_counted n calls i zero x before = omega arith
setups_counted n calls i (suc k) x before =
    let later = setups_counted n calls (i + 1) k (next (next x)) (before ++ call_at i ∷ []) in
    let longer : length (before ++ call_at i ∷ []) ≡ length before + 1 = length-append before (call_at i ∷ []) in
    rw (calls_past_settle (before ++ call_at i ∷ []) (is_settled calls i)
    (setups_from n calls (i + 1) k (next (next x)))) (later ∙ omega arith)

-- and their numbers are those from their place on
setups_below :
    (n calls i k x : ℕ) (before : List CallNo) → AreBelow i before
    → AreBelow (i + k) (calls_after_lines before (setups_from n calls i k x))
setups_below n calls i zero x before below = let e : i ≡ i + 0 = omega arith in subst (λ m. AreBelow m before) e below
setups_below n calls i (suc k) x before below =
    let later = setups_below n calls (i + 1) k (next (next x)) (before ++ call_at i ∷ []) (below_more i before below) in
    let e : i + 1 + k ≡ i + suc k = omega arith in
    rw (calls_past_settle (before ++ call_at i ∷ []) (is_settled calls i)
    (setups_from n calls (i + 1) k (next (next x)))) (subst
    (λ m. AreBelow m (calls_after_lines (before ++ call_at i ∷ []) (setups_from n calls (i + 1) k (next (next x)))))
    e later)

name_count : (named : Named) (i k : ℕ) → length (names_from named i k) ≡ k
name_count named i zero = refl
name_count named i (suc k) = let e = name_count named (i + 1) k in omega (arith, e)

-- the lines of a generated plan can be posted
pub plan_is_postable :
    (seed n calls : ℕ) → 4 ≤ n → n ≤ MOST_NODES
    → ArePostable (drawn_network n seed) [] (load_plan_of seed n calls).lines
plan_is_postable seed n calls four most =
    setups_post n seed calls 0 calls (after_network n seed) [] four most (All-nil (λ (m : CallNo). m.0 < 0))

-- its nodes and calls have their names
pub plan_is_named : (seed n calls : ℕ) → HasNames (load_plan_of seed n calls)
plan_is_named seed n calls =
    let named = name_count Call 0 calls in
    let counted = setups_counted n calls 0 calls (after_network n seed) [] in
    let most : 0 + calls ≡ length (names_from Call 0 calls) = omega (arith, named) in
    record {
      nodes = name_count Node 0 n ∙ sym (node_count 0 n seed);
      calls = omega (arith, named, counted);
      numbers =
          subst (λ m. AreBelow m (calls_after_lines [] (setups_from n calls 0 calls (after_network n seed)))) most
          (setups_below n calls 0 calls (after_network n seed) [] (All-nil (λ (m : CallNo). m.0 < 0)));
    }
