use Rattle.std.proofs.{Common.{◌≡◌, ◌<◌, ◌+◌, ◌++◌, ◌∷◌, ◌∙◌, ℕ, Bool, true, false, cond, List, [], ap, get_or, length, map, refl, sym, take}, lemmas.List.map-append, lemmas.List.Elements.filter_more}
use Rattle.std.specs.Prelude.{filter}
use Rattle.ason_base.specs.declared.network.NodeSpec.{NodeSpec}
use Rattle.world_core.specs.Channels.{new_channel}
use Rattle.world_rules.specs.WorldRuns.{is_world_channel}
use Rattle.world_core.proofs.channel.new_channels.Goals as goal

-- what is made of those up to a place that pass, and then of the one there
next-made : {X Y : Type 0} (p : X → Bool) (f : X → Y) (xs : List X) (i : ℕ) (d : X) → i < length xs →
    map f (filter p (take (i + 1) xs))
    ≡ map f (filter p (take i xs)) ++ cond (p (get_or xs i d)) (f (get_or xs i d) ∷ []) []
next-made {X} p f xs i d within =
    let x = get_or xs i d in
    ap (map f) (filter_more p xs i d within)
    ∙ map-append f (filter p (take i xs)) (cond (p x) (x ∷ []) [])
    ∙ ap (λ ys. map f (filter p (take i xs)) ++ ys) (go (p x) x)
  where
    go : (b : Bool) (x : X) → map f (cond b (x ∷ []) []) ≡ cond b (f x ∷ []) []
    go true x = refl
    go false x = refl

made-of : (ns : List NodeSpec) →
    map (λ (m : NodeSpec). new_channel m.id) ns ≡ map new_channel (map (λ (m : NodeSpec). m.id) ns)
made-of [] = refl
made-of (n ∷ ns) = ap (λ cs. new_channel n.id ∷ cs) (made-of ns)

pub loop-m-preserved : goal.loop-m-preserved
loop-m-preserved c =
    let nodes = c.nodes-m-items.result.now in
    let i = c.loop-m.m-index in
    let none : NodeSpec = record { id = record { 0 = 0 }; convert = false } in
    let leads = λ (m : NodeSpec). is_world_channel c.args.t.now c.args.n m.id in
    let m = get_or nodes i none in
    c.in_ok-add_channel.ensures
    ∙ ap (λ cs. cs ++ cond (leads m) (new_channel m.id ∷ []) [])
    (c.loop-m.invariant ∙ sym (made-of (filter leads (take i nodes))))
    ∙ sym (next-made leads (λ (k : NodeSpec). new_channel k.id) nodes i none c.loop-m-test.true)
    ∙ made-of (filter leads (take (i + 1) nodes))
