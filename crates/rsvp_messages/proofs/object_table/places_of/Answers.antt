use Rattle.std.proofs.{Common.{◌≡◌, ◌≤◌, ◌<◌, ◌+◌, ℕ, [], arith, get_or, refl, set, sym, subst, take, ◌∙◌}, lemmas.List.length-set}
use Rattle.rsvp_messages.specs.{declared.object_table.TheConstants.NOTED, declared.raw.RawObject.RawObject, Places.{HasPlaces, noted}}
use Rattle.rsvp_messages.proofs.{Placed.{any_default, none_stand, noted_stand, passed_stand}, object_table.places_of.Goals.{then-class-lt-NOTED, else-class-lt-NOTED}}
use Rattle.rsvp_messages.proofs.object_table.places_of.Goals as goal

pub loop-i-init : goal.loop-i-init
loop-i-init c = record { placed = none_stand _ refl; long = refl }

pub loop-i-preserved : goal.loop-i-preserved
loop-i-preserved c =
    let l = c.loop-i in
    let items = c.args.items.now in
    let none : RawObject = record { class = 0; ctype = 0; body = record { ref_ptr = (0, 0); now = [] } } in
    let x = get_or items l.i none in
    let is : x ≡ get_or items l.i x = any_default items l.i none x c.loop-i-test.true in
    elim c.if-class-lt-NOTED.branch [
      | then-class-lt-NOTED w ↦
          let low : x.class < NOTED = omega (arith, c.from-class.ensures, w.if-class-lt-NOTED.true) in
          let kept = noted_stand items l.i x c.loop-i-test.true is l.places w.noted.result l.invariant.placed
          l.invariant.long low (omega (arith, c.loop-i-test.true, c.requires))
          (subst (λ (k : ℕ). w.noted.result ≡ noted (get_or l.places k 0) (l.i + 1)) c.from-class.ensures w.noted.ensures)
          in
          rw w.places-is (record {
            placed = subst (λ (k : ℕ). HasPlaces (take (l.i + 1) items) (set l.places k w.noted.result))
                (sym c.from-class.ensures) kept;
            long = length-set l.places c.from-class.result w.noted.result ∙ l.invariant.long;
          })
      | else-class-lt-NOTED w ↦
          let high : NOTED ≤ x.class = omega (arith, c.from-class.ensures, w.if-class-lt-NOTED.false) in
          rw w.places-is (record {
            placed = passed_stand items l.i x c.loop-i-test.true is l.places l.invariant.placed high;
            long = l.invariant.long;
          })
    ]
