-- Reading the steps of a route.
use Rattle.std.proofs.{Common.{◌≡◌, ℕ, ◌+◌, ◌*◌, ◌<◌, ◌≤◌, List, [], ◌∷◌, ◌++◌, length, take, drop, refl, ap, sym, subst, ◌∙◌, arith, append_assoc, length-drop, length-append}, lemmas.List.{length-take, take_at, drop_at}, lemmas.List.Elements.{All-head, All-tail}, lemmas.List.Concat.flat_map-cons}
use Rattle.std.specs.List.{All}
use Rattle.ason_base.specs.{declared.limits.TheConstants.MOST_STEPS, declared.steps.Step.Step}
use Rattle.wire_buf.specs.{Objects.{header, object}, Routes.{AreSteps, BeginsStep, HasIds, IsRoute, IsRouteStep, step_bytes, step_size, route_bytes}}
use Rattle.wire_buf.proofs.{Numbers.again_4, Sequences.{BeginsOnce, ReadItems, ends, same_items}}

pub steps_once : BeginsOnce BeginsStep step_size
steps_once = record { same = λ bytes a b p q. p.3 ∙ sym q.3; within = within } where
  within : (bytes : List ℕ) (s : Step) → IsRouteStep (take 12 bytes) s → (0 < 12) × (12 ≤ length bytes)
  within bytes s is = (omega arith, omega (arith, is.0, length-take 12 bytes))

AreSteps-length : (bytes : List ℕ) (steps : List Step) → AreSteps bytes steps → length bytes ≡ 12 * length steps
AreSteps-length bytes [] are = ap length are
AreSteps-length bytes (s ∷ ss) are =
    let others = AreSteps-length (drop 12 bytes) ss are.1 in
    omega (arith, others, are.0.0, length-take 12 bytes, length-drop 12 bytes)

-- a body that isn't empty nor longer than 64 steps, and was read to its end, is the route that was read and no other
pub is_route : (body left : List ℕ) (steps : List Step) → left ≡ [] → 0 < length body → length body ≤ 768 →
    ReadItems BeginsStep step_size body left steps → IsRoute body steps
    × ((all : List Step) → IsRoute body all → steps ≡ all)
is_route body left steps none some few so_far =
    let are : AreSteps body steps = ends body left steps none so_far in
    let len = AreSteps-length body steps are in
    ((omega (arith, len), omega (arith, len), are), λ all route. same_items steps_once body steps all are route.2)

-- no body that is empty or longer than 64 steps is a route
pub out_of_size : (body : List ℕ) (all : List Step) → IsRoute body all → (0 < length body) × (length body ≤ 768)
out_of_size body all route =
    let len = AreSteps-length body all route.2 in (omega (arith, len, route.0), omega (arith, len, route.1))

pub route_bytes-length : (steps : List Step) → length (route_bytes steps) ≡ 12 * length steps
route_bytes-length [] = refl
route_bytes-length (s ∷ ss) =
    let others = route_bytes-length ss in
    let front : length (step_bytes s ++ route_bytes ss) ≡ 12 + length (route_bytes ss) =
    length-append (step_bytes s) (route_bytes ss) in
    ap length (flat_map-cons step_bytes s ss) ∙ omega (arith, front, others)

pub route_written : (old reserved headed new : List ℕ) (items steps : List Step) (len class ctype : ℕ) → items ≡ steps →
    len ≡ 4 + 12 * length items → reserved ≡ old → headed ≡ reserved ++ header len class ctype →
    new ≡ headed ++ route_bytes items → new ≡ old ++ object class ctype (route_bytes steps)
route_written old reserved headed new items steps len class ctype same is_len e1 e2 e3 =
    let total : len ≡ 4 + length (route_bytes items) = omega (arith, route_bytes-length items) in
    rw (e3, e2, e1, total, same)
    (append_assoc old (header (4 + length (route_bytes steps)) class ctype) (route_bytes steps))

step_again : (s : Step) → HasIds s → IsRouteStep (step_bytes s) s
step_again s ids = (
  refl,
  refl,
  refl,
  λ i. record {
    node = record { 0 = sym (again_4 s.node.0 ids.0) i };
    link = record { 0 = sym (again_4 s.link.0 ids.1) i };
  },
)

are_again : (steps : List Step) → All HasIds steps → AreSteps (route_bytes steps) steps
are_again [] ids = refl
are_again (s ∷ ss) ids =
    let head = step_again s (All-head HasIds s ss ids) in
    let tail = are_again ss (All-tail HasIds s ss ids) in
    subst (λ (l : List ℕ). AreSteps l (s ∷ ss)) (sym (flat_map-cons step_bytes s ss)) (
      subst (λ (l : List ℕ). IsRouteStep l s) (sym (take_at (step_bytes s) (route_bytes ss) 12 refl)) head,
      subst (λ (l : List ℕ). AreSteps l ss) (sym (drop_at (step_bytes s) (route_bytes ss) 12 refl)) tail,
    )

pub route_again : (steps : List Step) → 1 ≤ length steps → length steps ≤ MOST_STEPS → All HasIds steps →
    IsRoute (route_bytes steps) steps
route_again steps some few ids = (some, few, are_again steps ids)
