-- What a node answers to a tick, to a row of a link and to an item that sets up, releases and protects nothing changes
-- phases of legs alone.
use Rattle.std.proofs.{Common.{ℕ, ◌+◌, nat_eq, nat_le, List, [], ◌∷◌, ◌++◌}, ByRecursion.All-append}
use Rattle.std.specs.{Prelude.{◌&&◌, not, Option, Some, None}, List.AllByRecursion}
use Rattle.ason_base.specs.{Codes.{fibre_down_code, fibre_up_code}, Lsps.{has_fibre, without_fibre}, declared.codes.ErrCode.ErrCode, declared.ids.Fibre.Fibre, declared.ids.NodeId.NodeId, declared.network.LinkSpec.LinkSpec, declared.commands.Command.TheVariants.{Setup, Release, Protect, Retry, Revert, Fail, Repair}, declared.commands.DeskItem.DeskItem, declared.commands.DeskItem.TheVariants.{Order, Alarm, Clear}, declared.tables.CallRec.CallRec, declared.tables.Leg.Leg}
use Rattle.mesh_rules.specs.{declared.neighbours.Neighbour.Neighbour, Alarms.{enters, is_hit, knows_down, notice_of, notices, notify_to}, Calls.{find_call, is_stuck, is_turned}, Changes.{Answer, nothing}, KnownRows.{has_row, known_rows}, Learnt.on_link, Legs.{leg_of, previous}, LocalNodes.{LocalNode, own_link}, Orders.on_item, Retries.{retries, retry_with}, Reverts.{revert_with, reverts}, State.NodeState, Turns.{call_put, go_back, has_any, turn}, Waits.{all_ticked, on_tick, call_ticked, waits}}
use Rattle.mesh_nodes.proofs.Cases.{if_cases}
use Rattle.mesh_laws.proofs.{kept.Phases.{ItemKept, Kept, OutKept, kept-nothing, kept-then, leg_of-here}, kept.Calls.{go_back-kept, kept-call, turn-kept}}

module _ (p : LocalNode) (s : NodeState) where
  abbrev Good : Answer → Type 0
  Good a = Kept s.legs a

  -- Rows, ticks

  -- a row of a link changes no leg
  pub link-kept : (found : Option LinkSpec) → Good (on_link p s found)
  link-kept None = kept-nothing s.legs
  link-kept (Some l) =
      if_cases Good (has_row (known_rows p s) l.id) nothing _ (λ e. kept-nothing s.legs)
      (λ e. record { legs = tt; sent = tt })

  waits-kept : (wait : ℕ) (c : CallRec) → Good (waits wait s.legs c)
  waits-kept wait c =
      if_cases Good (nat_le wait (c.ticks + 1)) (go_back c (leg_of c.back s.legs)) (call_put _)
      (λ e. go_back-kept s.legs c (leg_of c.back s.legs) (leg_of-here c.back s.legs)) (λ e. kept-call s.legs _)

  ticked-kept : (wait : ℕ) (c : CallRec) → Good (call_ticked wait s.legs c)
  ticked-kept wait c =
      if_cases Good (not (nat_eq wait 0) && (is_turned c.state && not (has_any c.work_reports)))
      (waits wait s.legs c) nothing (λ e. waits-kept wait c) (λ e. kept-nothing s.legs)

  all_ticked-kept : (wait : ℕ) (calls : List CallRec) → Good (all_ticked wait s.legs calls)
  all_ticked-kept wait [] = kept-nothing s.legs
  all_ticked-kept wait (c ∷ calls) =
      kept-then s.legs (call_ticked wait s.legs c) (all_ticked wait s.legs calls) (ticked-kept wait c)
      (all_ticked-kept wait calls)

  -- at a tick calls may go back
  pub tick-kept : Good (on_tick p s)
  tick-kept = all_ticked-kept p.wait s.calls

  -- Items

  retry-kept : (from : NodeId) (c : Option CallRec) → Good (retry_with p s from c)
  retry-kept from None = kept-nothing s.legs
  retry-kept from (Some c) =
      if_cases Good (nat_eq from.0 p.id.0) (retries s c) nothing
      (λ e. if_cases Good (is_stuck c.state && (has_any c.work_reports && not (has_any c.back_reports)))
      (turn s.legs c (leg_of c.back s.legs)) nothing
      (λ x. turn-kept s.legs s.legs c (leg_of c.back s.legs) (leg_of-here c.back s.legs)) (λ x. kept-nothing s.legs))
      (λ e. kept-nothing s.legs)

  revert-kept : (from : NodeId) (c : Option CallRec) → Good (revert_with p s from c)
  revert-kept from None = kept-nothing s.legs
  revert-kept from (Some c) =
      if_cases Good (nat_eq from.0 p.id.0) (reverts s c) nothing
      (λ e. if_cases Good (is_turned c.state && not (has_any c.work_reports)) (go_back c (leg_of c.back s.legs)) nothing
      (λ x. go_back-kept s.legs c (leg_of c.back s.legs) (leg_of-here c.back s.legs)) (λ x. kept-nothing s.legs))
      (λ e. kept-nothing s.legs)

  notices-kept : (f : Fibre) (code : ErrCode) (legs : List Leg) → AllByRecursion OutKept (notices p f code legs)
  notices-kept f code [] = tt
  notices-kept f code (b ∷ legs) =
      All-append OutKept (notice_of p f code b) _
      (if_cases (AllByRecursion OutKept) (is_hit f b) (notify_to p f code b (previous b)) []
      (λ e. told (previous b)) (λ e. tt))
      (notices-kept f code legs)
    where
      told : (h : Option Neighbour) → AllByRecursion OutKept (notify_to p f code b h)
      told None = tt
      told (Some h) = (tt, tt)

  knows_down-kept : (f : Fibre) (code : ErrCode) (fibres : List Fibre) → Good (knows_down p s f code fibres)
  knows_down-kept f code fibres = record { legs = tt; sent = notices-kept f code s.legs }

  -- an item that sets up, releases and protects nothing
  pub item-kept : (i : DeskItem) → ItemKept i → Good (on_item p s i)
  item-kept (Order (Setup n from to protected both via backup)) kept = absurd kept
  item-kept (Order (Release n from)) kept = absurd kept
  item-kept (Order (Protect n from)) kept = absurd kept
  item-kept (Order (Retry n from)) kept = retry-kept from (find_call n s.calls)
  item-kept (Order (Revert n from)) kept = revert-kept from (find_call n s.calls)
  item-kept (Order (Fail g)) kept = kept-nothing s.legs
  item-kept (Order (Repair g)) kept = kept-nothing s.legs
  item-kept (Alarm f) kept =
      if_cases Good (enters p f (own_link p f.link) && not (has_fibre s.down f)) _ nothing
      (λ e. knows_down-kept f fibre_down_code (s.down ++ f ∷ [])) (λ e. kept-nothing s.legs)
  item-kept (Clear f) kept =
      if_cases Good (enters p f (own_link p f.link) && has_fibre s.down f) _ nothing
      (λ e. knows_down-kept f fibre_up_code (without_fibre f s.down)) (λ e. kept-nothing s.legs)
