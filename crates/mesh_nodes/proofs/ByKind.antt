-- What holds of what each kind of order does holds of what any order does; likewise of messages.
use Rattle.std.proofs.Common.{ℕ}
use Rattle.ason_base.specs.{declared.commands.Command.Command, declared.commands.Command.TheVariants.{Setup, Release, Protect, Retry, Revert, Fail, Repair}, declared.ids.CallNo.CallNo, declared.ids.NodeId.NodeId, declared.messages.Msg.Msg, declared.messages.Msg.TheVariants.{Path, Resv, PathTear, PathErr, Notify}}
use Rattle.mesh_rules.specs.{declared.arrivals.Arrival.Arrival, Changes.{Answer, nothing}, LocalNodes.LocalNode, Messages.{arrival, on_message}, Notifies.{Notice, on_notify}, Orders.on_order, PathErrs.{PathFailure, on_path_err}, Paths.{PathRequest, on_path}, Protects.on_protect, Releases.on_release, Resvs.on_resv, Retries.on_retry, Reverts.on_revert, Setups.{SetupRequest, on_setup}, State.NodeState, Tears.on_tear}

module _ (P : Answer → Type 0) (p : LocalNode) (s : NodeState) where
  -- an order to set up a call, to release one, to protect one, to try again to turn one, or to go back
  pub by-order : P nothing → ((w : SetupRequest) → P (on_setup p s w)) →
      ((n : CallNo) (from : NodeId) → P (on_release p s n from)) →
      ((n : CallNo) (from : NodeId) → P (on_protect p s n from)) →
      ((n : CallNo) (from : NodeId) → P (on_retry p s n from)) →
      ((n : CallNo) (from : NodeId) → P (on_revert p s n from)) → (c : Command) → P (on_order p s c)
  by-order none setup release protect retry revert (Setup n from to protected both via backup) =
      setup
      (record { call = n; from = from; egress = to; protected = protected; both = both; via = via; backup = backup })
  by-order none setup release protect retry revert (Release n from) = release n from
  by-order none setup release protect retry revert (Protect n from) = protect n from
  by-order none setup release protect retry revert (Retry n from) = retry n from
  by-order none setup release protect retry revert (Revert n from) = revert n from
  by-order none setup release protect retry revert (Fail g) = none
  by-order none setup release protect retry revert (Repair g) = none

  -- a Path, a Resv, a PathTear, a PathErr or a Notify from this sender
  pub by-message : (u : NodeId) → ((m : PathRequest) → P (on_path p s m)) →
      ((a : Arrival) (x : ℕ) → P (on_resv p s a x)) → ((a : Arrival) → P (on_tear p s a)) →
      ((e : PathFailure) → P (on_path_err s u e)) → ((m : Notice) → P (on_notify p s u m)) → (m : Msg) →
      P (on_message p s u m)
  by-message u path resv tear err notify (Path l e k route set up r) =
      path (record { arrival = arrival l e u k; route = route; set = set; upstream = up; role = r })
  by-message u path resv tear err notify (Resv l e k x) = resv (arrival l e u k) x
  by-message u path resv tear err notify (PathTear l e k) = tear (arrival l e u k)
  by-message u path resv tear err notify (PathErr l e at gone code) =
      err (record { lsp = l; msg = PathErr l e at gone code; removed = gone; code = code })
  by-message u path resv tear err notify (Notify l e at k code) =
      notify (record { lsp = l; msg = Notify l e at k code; at = at; link = k; code = code })
