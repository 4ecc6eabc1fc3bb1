-- What holds of labels that are sent, over each event.
use Rattle.std.proofs.Common.{◌≡◌, ℕ, true, List, [], ◌∷◌, refl, sym, ◌∙◌, inl, inr}
use Rattle.std.specs.Prelude.{Option, Some, None}
use Rattle.ason_base.specs.{Network.Network, declared.commands.Command.Command, declared.commands.DeskItem.DeskItem, declared.ids.Fibre.Fibre, declared.ids.Lsp.Lsp, declared.ids.NodeId.NodeId, declared.messages.Msg.Msg, declared.network.LinkSpec.LinkSpec, declared.steps.Step.Step, declared.tables.Leg.Leg}
use Rattle.ason_base.proofs.Numbers.{self-number}
use Rattle.mesh_rules.specs.{declared.events.MeshEvent.MeshEvent, Changes.{Answer, nothing}, Events.{has_first, on_first, on_first_item, posted}, KnownRows.{has_row, known_rows}, Learnt.on_link, Legs.{legs_changed, reverse}, LocalNodes.{LocalNode, local_node}, Machine.{Mesh, commit, without_first}, Messages.on_message, State.NodeState}
use Rattle.lsp_laws.specs.HopLaw.{leg_at}
use Rattle.mesh_nodes.proofs.{Cases.if_cases, LegList.found-lsp}
use Rattle.lsp_laws.proofs.{hops.HopLaws.carried, hops.Planned.Routes, hops.Plans.other, hops.Run.{Carried, step_routes}, nodes.Facts.{MeshFacts, NodeFacts}}
use Rattle.mesh_laws.proofs.{crossing.Steps.{Entered, NoneCrosses, none-crosses}, crossing.Upstream.upstream-of, sent.After.{AfterFits, after-fit}, sent.Events.{leg-after, lawful-posted, lawful-quiet, lawful-taken}, sent.FirstMessages.{goes, over}, sent.ItemsHear.item-calm, sent.May.{CalmAnswer, FineAnswer, gift, idle, no_gift}, sent.MessagesHear.message-fine, sent.Standing.{Share, Standing, share-lasts, taken-of}, sent.Steps.LawfulMesh, sent.Told.{Told, gift-tells, still-told, told-step, told_now, or-none}, decided.AskedWas.posted-legs, alone.AloneRuns.or_route-kept}

-- The state of a run

-- what is carried along a run: w has the primary of each backup, o the route of each LSP
pub record Sound (t : Network) (o w : Routes) (s : Mesh) : Type 0 where
  pub carried : Carried t s o
  pub facts : MeshFacts t s
  pub told : Told o w s
  pub lawful : LawfulMesh t (Share t w) s
  pub crossing : NoneCrosses s

-- in it each LSP stands as it was told
pub standing : (t : Network) (o w : Routes) (s : Mesh) → Sound t o w s → Standing t o w s
standing t o w s now = record { follows = now.carried.follows; facts = now.facts; told = now.told }

lawful-share : (t : Network) (w w' : Routes) (s : Mesh) →
    ((l : Lsp) (r : List Step) → w l ≡ Some r → w' l ≡ Some r) → LawfulMesh t (Share t w) s →
    LawfulMesh t (Share t w') s
lawful-share t w w' s lasts lawful f x u d apart from to before since is l m this that =
    elim (lawful f x u d apart from to before since is l m this that) [
      | inl self-number ↦ inl self-number
      | inr shares ↦ inr (share-lasts t w w' lasts l m shares)
    ]

lasts-now : (s' : Mesh) (w : Routes) (l : Lsp) (r : List Step) → w l ≡ Some r → told_now s' w l ≡ Some r
lasts-now s' w l r e = or_route-kept (w l) _ r e

-- Each event

-- the first item of a desk
pub first_item-calm : (t : Network) (n : NodeId) (s : NodeState) → NodeFacts n.0 s → (items : List DeskItem) →
    CalmAnswer (local_node t n) s no_gift (on_first_item (local_node t n) s items)
first_item-calm t n s facts [] = idle (local_node t n) s no_gift
first_item-calm t n s facts (i ∷ items) = item-calm (local_node t n) s no_gift facts i

-- a link that is learnt
pub link-calm : (p : LocalNode) (s : NodeState) (o : Option LinkSpec) → CalmAnswer p s no_gift (on_link p s o)
link-calm p s None = idle p s no_gift
link-calm p s (Some l) =
    if_cases (CalmAnswer p s no_gift) (has_row (known_rows p s) l.id) nothing _ (λ e. idle p s no_gift)
    (λ e. record { legs = tt; sent = tt })

module _ (t : Network) (o w : Routes) (s : Mesh) (now : Sound t o w s) where
  -- with these desks
  abbrev with_desks : (ℕ → List DeskItem) → Mesh
  with_desks desks = record s { desks = desks }

  -- Nothing is heard: the node n answers an item of its desk, or a tick.
  pub quiet_sound : (desks : ℕ → List DeskItem) (n : NodeId) (a : Answer) (o' : Routes) →
      CalmAnswer (local_node t n) (s.nodes n.0) no_gift a → ((l : Lsp) → o' l ≡ None → o l ≡ None) →
      Carried t (commit (with_desks desks) n.0 a) o' → MeshFacts t (commit (with_desks desks) n.0 a) →
      Sound t o' (told_now (commit (with_desks desks) n.0 a) w) (commit (with_desks desks) n.0 a)
  quiet_sound desks n a o' calm grow carried facts =
      record { carried = carried; facts = facts; told = told; lawful = lawful; crossing = crossing }
    where
      p : LocalNode
      p = local_node t n

      s' : Mesh
      s' = commit (with_desks desks) n.0 a

      fit : (l : Lsp) (g : Leg) → leg_at s' l n ≡ Some g → AfterFits p (s.nodes n.0) no_gift l g
      fit l g here =
          after-fit p (s.nodes n.0) no_gift a.legs calm.legs l g (sym (leg-after (with_desks desks) n a l) ∙ here)

      told : Told o' (told_now s' w) s'
      told =
          told-step t s s' o o' w now.carried.follows carried.follows grow now.told n no_gift
          (λ l r never. absurd never) (λ l k apart. rw (other k.0 n.0 apart) refl) (λ l g here. (fit l g here).says)

      after : Standing t o' (told_now s' w) s'
      after = record { follows = carried.follows; facts = facts; told = told }

      lawful : LawfulMesh t (Share t (told_now s' w)) s'
      lawful =
          lawful-quiet t (Share t (told_now s' w)) (with_desks desks) p n a calm
          (taken-of t o' (told_now s' w) s' after)
          (lawful-share t w (told_now s' w) s (lasts-now s' w) now.lawful)

      crossing : NoneCrosses s'
      crossing =
          none-crosses t o w o' (told_now s' w) s s' (standing t o w s now) after n no_gift
          (record {
            legs = λ l k apart. rw (other k.0 n.0 apart) refl;
            arms = λ l g here. (fit l g here).arms;
            own = λ l g here. found-lsp l (legs_changed a.legs (s.nodes n.0).legs) g
                (sym (leg-after (with_desks desks) n a l) ∙ here);
            upstream = λ l r v f u never. absurd never;
          })
          now.crossing

  -- A message is taken.
  taken_sound : (d u : NodeId) (o' : Routes) (m : Msg) (rest : List Msg) → s.mail u.0 d.0 ≡ m ∷ rest →
      ((l : Lsp) → o' l ≡ None → o l ≡ None) →
      Carried t (commit (without_first s u.0 d.0) d.0 (on_message (local_node t d) (s.nodes d.0) u m)) o' →
      MeshFacts t (commit (without_first s u.0 d.0) d.0 (on_message (local_node t d) (s.nodes d.0) u m)) →
      Sound t o' (told_now (commit (without_first s u.0 d.0) d.0 (on_message (local_node t d) (s.nodes d.0) u m)) w)
      (commit (without_first s u.0 d.0) d.0 (on_message (local_node t d) (s.nodes d.0) u m))
  taken_sound d u o' m rest first grow carried facts =
      record { carried = carried; facts = facts; told = told; lawful = lawful; crossing = crossing }
    where
      p : LocalNode
      p = local_node t d

      a : Answer
      a = on_message (local_node t d) (s.nodes d.0) u m

      s' : Mesh
      s' = commit (without_first s u.0 d.0) d.0 a

      may : FineAnswer p (s.nodes d.0) (gift m) a
      may = message-fine p (s.nodes d.0) (now.facts.node d.0) u m

      fit : (l : Lsp) (g : Leg) → leg_at s' l d ≡ Some g → AfterFits p (s.nodes d.0) (gift m) l g
      fit l g here =
          after-fit p (s.nodes d.0) (gift m) a.legs may.legs l g
          (sym (leg-after (without_first s u.0 d.0) d a l) ∙ here)

      told : Told o' (told_now s' w) s'
      told =
          told-step t s s' o o' w now.carried.follows carried.follows grow now.told d (gift m)
          (gift-tells t s o w now.carried.follows now.told u d m rest first)
          (λ l k apart. rw (other k.0 d.0 apart) refl) (λ l g here. (fit l g here).says)

      after : Standing t o' (told_now s' w) s'
      after = record { follows = carried.follows; facts = facts; told = told }

      lawful : LawfulMesh t (Share t (told_now s' w)) s'
      lawful =
          lawful-taken t (Share t (told_now s' w)) s p d u m rest first a may
          (goes t o w s (standing t o w s now) p u d m rest first)
          (over t o w s (standing t o w s now) p u d m rest first) (taken-of t o' (told_now s' w) s' after)
          (lawful-share t w (told_now s' w) s (lasts-now s' w) now.lawful)

      crossing : NoneCrosses s'
      crossing =
          none-crosses t o w o' (told_now s' w) s s' (standing t o w s now) after d (gift m)
          (record {
            legs = λ l k apart. rw (other k.0 d.0 apart) refl;
            arms = λ l g here. (fit l g here).arms;
            own = λ l g here. found-lsp l (legs_changed a.legs (s.nodes d.0).legs) g
                (sym (leg-after (without_first s u.0 d.0) d a l) ∙ here);
            upstream = upstream-of t o w s (standing t o w s now) u d m rest first;
          })
          now.crossing

  -- the first message of a list
  pub first_sound : (d u : NodeId) (o' : Routes) (ms : List Msg) → s.mail u.0 d.0 ≡ ms → has_first ms ≡ true →
      ((l : Lsp) → o' l ≡ None → o l ≡ None) →
      Carried t (commit (without_first s u.0 d.0) d.0 (on_first (local_node t d) (s.nodes d.0) u ms)) o' →
      MeshFacts t (commit (without_first s u.0 d.0) d.0 (on_first (local_node t d) (s.nodes d.0) u ms)) →
      Sound t o' (told_now (commit (without_first s u.0 d.0) d.0 (on_first (local_node t d) (s.nodes d.0) u ms)) w)
      (commit (without_first s u.0 d.0) d.0 (on_first (local_node t d) (s.nodes d.0) u ms))
  first_sound d u o' [] first enabled grow carried facts = absurd (cc enabled)
  first_sound d u o' (m ∷ rest) first enabled grow carried facts =
      taken_sound d u o' m rest first grow carried facts

  posted-entered : (c : Command) (l : Lsp) (n : NodeId) (f : Fibre) (g : Leg) → Entered (posted t s c) l n f g →
      Entered s l n f g
  posted-entered c l n f g at_g = record {
    found = sym (posted-legs t s c l n) ∙ at_g.found;
    backup = at_g.backup;
    in_use = at_g.in_use;
    fibre = at_g.fibre;
  }

  -- A command is posted.
  pub posted_sound : (c : Command) (o' : Routes) → ((l : Lsp) → o' l ≡ None → o l ≡ None) →
      Carried t (posted t s c) o' →
      MeshFacts t (posted t s c) → Sound t o' (told_now (posted t s c) w) (posted t s c)
  posted_sound c o' grow carried facts = record {
    carried = carried;
    facts = facts;
    told = still-told t s (posted t s c) o o' w now.carried.follows carried.follows grow now.told
        (λ l k g here. now.told.legs l k g (sym (posted-legs t s c l k) ∙ here));
    lawful = lawful-posted t (Share t (told_now (posted t s c) w)) s c
        (lawful-share t w (told_now (posted t s c) w) s (lasts-now (posted t s c) w) now.lawful);
    crossing = λ f n k l m g h other at_g at_h label.
        now.crossing f n k l m g h other (posted-entered c l n f g at_g)
        (posted-entered c m k (reverse f) h at_h) label;
  }

  -- no event takes a route away
  pub grows : (e : MeshEvent) (l : Lsp) → step_routes t s e o l ≡ None → o l ≡ None
  grows e l none = or-none (o l) _ none
