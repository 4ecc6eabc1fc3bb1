use Rattle.std.proofs.{Common.{◌≡◌, true, false, sym, ◌∙◌, ap, arith, subst}, lemmas.Result.IfErr-weaker}
use Rattle.flood.specs.Frames.{SpellsNothing}
use Rattle.world_core.specs.{declared.acts.Act.TheVariants.Take, Replays.{HasActed, IsUnable, WorldState}, Seats.is_channel_there}
use Rattle.world_core.proofs.{Acting.{no-channel, no-noise, noise-steps, not-heard}, world.World.make_noise.Goals.After-is_channel_there}
use Rattle.ason_base.proofs.Results.{on_ok}
use Rattle.world_core.proofs.world.World.make_noise.Goals as goal

-- whether the channel is there, as it was asked
channel-there : (c : After-is_channel_there) →
    is_channel_there c.args.self.now.seats c.args.from c.args.to ≡ c.is_channel_there.result
channel-there c =
    ap (λ (k : WorldState). is_channel_there k.seats c.args.from c.args.to) (sym c.self.view_is)
    ∙ ap (λ seats. is_channel_there seats c.args.from c.args.to) (sym c.deref.ensures.value)
    ∙ sym c.is_channel_there.ensures

pub returns-then-not-is_channel_there-clause-refused : goal.returns-then-not-is_channel_there-clause-refused
returns-then-not-is_channel_there-clause-refused c e t =
    let there = channel-there (goal.at.returns-then-not-is_channel_there-clause-refused c).After-is_channel_there in
    let none : c.is_channel_there.result ≡ false = grind (arith, c.if-not-is_channel_there.true) in
    no-channel t c.args.self.now c.args.to c.args.from c.args.bytes.now (there ∙ none)

pub returns-then-not-branch-clause-refused : goal.returns-then-not-branch-clause-refused
returns-then-not-branch-clause-refused c e t =
    let no : c.in_ok-spells_nothing.field-0 ≡ false = grind (arith, c.if-not-branch.true) in
    no-noise t c.args.self.now c.args.to c.args.from c.args.bytes.now
    (subst (λ bytes. ¬ SpellsNothing bytes) c.items.ensures (c.in_ok-spells_nothing.ensures.something no))

pub returns-clause-done : goal.returns-clause-done
returns-clause-done c =
    let there = channel-there (goal.at.returns-clause-done c).After-is_channel_there in
    let on : c.is_channel_there.result ≡ true = grind (arith, c.if-not-is_channel_there.false) in
    let yes : c.in_ok-spells_nothing.field-0 ≡ true = grind (arith, c.if-not-branch.false) in
    on_ok c.act.result _ _
    (λ acted t. noise-steps t c.args.self.now c.act.new.self c.args.to c.args.from c.args.bytes.now (there ∙ on)
    (subst SpellsNothing c.items.ensures (c.in_ok-spells_nothing.ensures.nothing yes))
    (subst (λ bytes. HasActed c.args.self.now c.args.to (Take c.args.from bytes) c.act.new.self)
    c.in_ok-bytes.ensures acted))
    c.act.ensures.done

pub returns-clause-refused : goal.returns-clause-refused
returns-clause-refused c =
    let there = channel-there (goal.at.returns-clause-refused c).After-is_channel_there in
    let on : c.is_channel_there.result ≡ true = grind (arith, c.if-not-is_channel_there.false) in
    IfErr-weaker c.act.result _ _
    (λ f unable e t. not-heard t c.args.self.now c.args.to c.args.from c.args.bytes.now (there ∙ on)
    (subst (λ bytes. IsUnable c.args.self.now c.args.to (Take c.args.from bytes)) c.in_ok-bytes.ensures (unable e)))
    c.act.ensures.refused
