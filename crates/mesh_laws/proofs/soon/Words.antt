-- Tests, and which event takes a message or handles an item of a desk.
use Rattle.std.proofs.{Common.{◌≡◌, ℕ, Bool, true, false, cond, nat_eq, refl, arith}, lemmas.Bool.and_parts}
use Rattle.std.specs.Prelude.{◌&&◌}
use Rattle.ason_base.specs.declared.ids.NodeId.{NodeId}
use Rattle.ason_base.proofs.JoinedEnds.{same-node}
use Rattle.mesh_rules.specs.{declared.events.MeshEvent.MeshEvent, declared.events.MeshEvent.TheVariants.{Take, Desk, Tick, Learn, Post}}
use Rattle.mesh_laws.specs.Sweeps.{handles_one, takes_one}

is-one : (b : Bool) → ◌≡◌ {A = ℕ} (cond b 1 0) 1 → b ≡ true
is-one true e = refl
is-one false e = absurd (omega (arith, e))

-- what is taken comes to its node
pub taken-at : (u d : ℕ) (b a : NodeId) → takes_one u d (Take b a) ≡ 1 → b.0 ≡ d
taken-at u d b a one =
    let is = (and_parts (nat_eq a.0 u) (nat_eq b.0 d) (is-one (nat_eq a.0 u && nat_eq b.0 d) one)).1 in grind arith

-- an event that takes a message from u to d is this one
pub take-is : (u d : NodeId) (e : MeshEvent) → takes_one u.0 d.0 e ≡ 1 → e ≡ Take d u
take-is u d (Take b a) one =
    let is = and_parts (nat_eq a.0 u.0) (nat_eq b.0 d.0) (is-one (nat_eq a.0 u.0 && nat_eq b.0 d.0) one) in
    let x : a.0 ≡ u.0 = (let h = is.0 in grind arith) in
    let y : b.0 ≡ d.0 = (let h = is.1 in grind arith) in
    let a-is = same-node a u x in let b-is = same-node b d y in λ i. Take (b-is i) (a-is i)
take-is u d (Desk n) one = absurd (omega (arith, one))
take-is u d (Tick n) one = absurd (omega (arith, one))
take-is u d (Learn n k) one = absurd (omega (arith, one))
take-is u d (Post c) one = absurd (omega (arith, one))

-- an event that handles an item of this desk is this one
pub desk-is : (n : NodeId) (e : MeshEvent) → handles_one n.0 e ≡ 1 → e ≡ Desk n
desk-is n (Desk m) one =
    let test : nat_eq m.0 n.0 ≡ true = is-one (nat_eq m.0 n.0) one in
    let is : m.0 ≡ n.0 = grind arith in
    λ i. Desk (same-node m n is i)
desk-is n (Take b a) one = absurd (omega (arith, one))
desk-is n (Tick m) one = absurd (omega (arith, one))
desk-is n (Learn m k) one = absurd (omega (arith, one))
desk-is n (Post c) one = absurd (omega (arith, one))
