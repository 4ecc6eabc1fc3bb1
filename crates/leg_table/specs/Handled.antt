-- What carrying out a rule's answer asks for, and what it promises: at the legs of a node alone, and at an ingress with
-- its calls. The tables t, the owner o, the shares s and the calls c are those before; those with a prime come after.
use Rattle.std.specs.Prelude.{◌≡◌, ◌≤◌, List, length, Result, IfOk, OnErr, OnOk}
use Rattle.mesh_rules.specs.{declared.limits.TheConstants.MOST_LEGS, Changes.{Answer, changed}, Legs.legs_changed}
use Rattle.ason_base.specs.{declared.ids.OutOfMemory.OutOfMemory, declared.tables.Out.Out}
use Rattle.link_owner.specs.Owners.{OwnerState}
use Rattle.share_check.specs.Guards.{Guard}
use Rattle.leg_table.specs.{LegClaims.{AreOfOneNode, MayAllMark, MayBeMade, is_own_fibre}, States.{local_of, state_of}, LegTables.LegTable, CallTables.CallTable}

-- What is handed back: what is to be sent, in order, or that memory was wanting
abbrev pub Handed : Type 0
Handed = Result (List Out) OutOfMemory

-- What is asked for

-- the legs may change as the answer says
pub record MayBeCarriedOut (t : LegTable) (a : Answer) : Type 0 where
  -- they take no label but what is free for them
  pub may : MayBeMade (local_of t) t.legs a.legs
  -- those that are marked use labels that may be marked so
  pub marks : MayAllMark (is_own_fibre (local_of t)) t.legs a.legs
  pub few : length (legs_changed a.legs t.legs) ≤ MOST_LEGS

-- At an ingress

-- the tables, the owner and the calls, after an answer
pub record CallsFollow (handed : Handed) (t : LegTable) (o : OwnerState) (c : CallTable) (t' : LegTable)
    (o' : OwnerState) (c' : CallTable) (a : Answer) : Type 0 where
  -- what the node keeps is changed as the answer says
  pub ok : OnOk handed (state_of t' c' ≡ changed (state_of t c) a)
  -- what the answer sends is to be sent
  pub sent : IfOk handed (λ outs. outs ≡ a.sent)
  -- the node and its links are as they were
  pub local : local_of t' ≡ local_of t
  -- after want of memory so are the tables
  pub err : OnErr handed (t' ≡ t)
  -- the owner
  pub err_owner : OnErr handed (o' ≡ o)
  -- and the calls
  pub err_calls : OnErr handed (c' ≡ c)

-- an answer, carried out with the labels that its legs take
pub record IsCarriedOut (handed : Handed) (t : LegTable) (o : OwnerState) (s : List Guard) (c : CallTable)
    (t' : LegTable) (o' : OwnerState) (s' : List Guard) (c' : CallTable) (a : Answer) : Type 0 where
  pub calls : CallsFollow handed t o c t' o' c' a
  -- after want of memory the shares are as they were
  pub err_shares : OnErr handed (s' ≡ s)
  -- the owner's claims and marks and the guards of the shares follow the legs
  pub node : AreOfOneNode t' o' s'
