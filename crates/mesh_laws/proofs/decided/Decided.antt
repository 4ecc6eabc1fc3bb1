-- So a call whose LSP was begun so many sweeps ago is decided.
use Rattle.std.proofs.Common.{◌≡◌, ℕ, List, refl, sym, subst}
use Rattle.std.specs.Prelude.{Option, Some, None, IsTrue}
use Rattle.ason_base.specs.{Network.Network, declared.calls.CallState.TheVariants.{Asking, Pairing}, declared.calls.Phase.Phase, declared.calls.Phase.TheVariants.{Asked, Held, Armed, Live, Closing, Falling}, declared.calls.Role.TheVariants.{Work, Back}, declared.ids.CallNo.CallNo, declared.ids.Lsp.Lsp, declared.tables.CallRec.CallRec}
use Rattle.mesh_rules.specs.{declared.events.MeshEvent.MeshEvent, Calls.find_call, Events.{IsRun, after}, Legs.{find_leg, leg_of}, Machine.{Mesh, start}}
use Rattle.lsp_laws.specs.CallLaw.{FitsLegs, phases_fit, phase_of}
use Rattle.lsp_laws.proofs.{nodes.NodeRuns.facts-hold, hops.NamedPhases.named_is}
use Rattle.mesh_laws.specs.SetupLaw.{EveryCallIsDecidedSoon, IsAskedFor}
use Rattle.mesh_laws.proofs.decided.Answered.{every_lsp_soon}

-- of a call that is Asking the working leg is Asked, of one that is Pairing the backup's

asking-phase : (a b : Option Phase) → IsTrue (phases_fit Asking a b) → a ≡ Some Asked
asking-phase None b h = absurd (cc h)
asking-phase (Some Asked) b h = refl
asking-phase (Some Held) b h = absurd (cc h)
asking-phase (Some Armed) b h = absurd (cc h)
asking-phase (Some Live) b h = absurd (cc h)
asking-phase (Some Closing) b h = absurd (cc h)
asking-phase (Some Falling) b h = absurd (cc h)

pairing-phase : (a b : Option Phase) → IsTrue (phases_fit Pairing a b) → b ≡ Some Asked
pairing-phase None b h = absurd (cc h)
pairing-phase (Some Live) None h = absurd (cc h)
pairing-phase (Some Live) (Some Asked) h = refl
pairing-phase (Some Live) (Some Held) h = absurd (cc h)
pairing-phase (Some Live) (Some Armed) h = absurd (cc h)
pairing-phase (Some Live) (Some Live) h = absurd (cc h)
pairing-phase (Some Live) (Some Closing) h = absurd (cc h)
pairing-phase (Some Live) (Some Falling) h = absurd (cc h)
pairing-phase (Some Asked) b h = absurd (cc h)
pairing-phase (Some Held) b h = absurd (cc h)
pairing-phase (Some Armed) b h = absurd (cc h)
pairing-phase (Some Closing) b h = absurd (cc h)
pairing-phase (Some Falling) b h = absurd (cc h)

module _ (t : Network) (events : List MeshEvent) (run : IsRun t start events) (n : ℕ) (m : CallNo) (c : CallRec)
    (found : find_call m ((after t start events).nodes n).calls ≡ Some c) (l : Lsp) where
  abbrev s : Mesh
  s = after t start events

  fit : FitsLegs n (s.nodes n).lsp (s.nodes n).legs c
  fit = ((facts-hold t events run).node n).call m c found

  work-asked : c.work ≡ Some l → c.state ≡ Asking → IsAskedFor (after t start events) l
  work-asked is asking =
      let named = named_is n (s.nodes n).lsp (s.nodes n).legs Work c.egress c.work l fit.work is in
      let here : phase_of (find_leg l (s.nodes n).legs) ≡ Some Asked =
      asking-phase _ (phase_of (leg_of c.back (s.nodes n).legs)) (let all = fit.state in rw (asking, is) at all) in
      subst (λ x. phase_of (find_leg l (s.nodes x).legs) ≡ Some Asked) (sym named.ingress) here

  back-asked : c.back ≡ Some l → c.state ≡ Pairing → IsAskedFor (after t start events) l
  back-asked is pairing =
      let named = named_is n (s.nodes n).lsp (s.nodes n).legs Back c.egress c.back l fit.back is in
      let here : phase_of (find_leg l (s.nodes n).legs) ≡ Some Asked =
      pairing-phase (phase_of (leg_of c.work (s.nodes n).legs)) _ (let all = fit.state in rw (pairing, is) at all) in
      subst (λ x. phase_of (find_leg l (s.nodes x).legs) ≡ Some Asked) (sym named.ingress) here

-- Every call whose LSP was begun that long ago is decided.
pub every_call_soon : EveryCallIsDecidedSoon
every_call_soon t events run l was n m c found =
    let answered = every_lsp_soon t events run l was in
    record {
      work = λ is asking. answered (work-asked t events run n m c found l is asking);
      back = λ is pairing. answered (back-asked t events run n m c found l is pairing);
    }
