-- An LSP is asked for, piece by piece.
use Rattle.std.proofs.{Common.{◌≡◌, ◌∙◌, ◌+◌, ℕ, List, [], ◌∷◌, ◌++◌, ap}, lemmas.List.append-nil}
use Rattle.std.specs.Prelude.{Option, Some}
use Rattle.ason_base.specs.{declared.ids.Lsp.Lsp, declared.network.TeRow.TeRow, declared.steps.Step.Step, declared.tables.CallRec.CallRec, declared.tables.Leg.Leg, declared.tables.Out.Out}
use Rattle.mesh_rules.specs.declared.changes.CallChange.TheVariants as call
use Rattle.mesh_rules.specs.declared.changes.LegChange.TheVariants as leg
use Rattle.mesh_rules.specs.{declared.changes.NextNumbers.NextNumbers, Calls.pairing, Changes.{Answer, changes_calls, followed_by, nothing, puts}, FirstLegs.{NewLsp, first_back, first_leg, first_path_out}, KnownRows.known_rows, Pairs.{beside_lsp, guarding, is_two_way, route_from}}
use Rattle.leg_table.specs.{States.{legs_state, local_of, state_of}, Tables.{CallTable, LegTable}}
use Rattle.call_control.specs.{PairRules.{backup_begun_here, backup_over}, Requests.{BackupRoute, PairRequest}, Rules.asked_here, Searches.RowsAreKnown}

-- a leg with its Path, then its call, then the next numbers
abbrev in_pieces : Answer → Answer → CallRec → NextNumbers → Answer
in_pieces old asked c next =
    record (followed_by (followed_by old asked) (changes_calls (call.Put c ∷ []))) { numbers = Some next }

together : (old : Answer) (g : Leg) (out : Out) (c : CallRec) (next : NextNumbers) →
    in_pieces old (puts g (out ∷ [])) c next
    ≡ followed_by old (record nothing {
      legs = leg.Put g ∷ [];
      calls = call.Put c ∷ [];
      numbers = Some next;
      sent = out ∷ [];
    })
together old g out c next = λ i. record {
  legs = append-nil (old.legs ++ leg.Put g ∷ []) i;
  calls = ap (λ cs. cs ++ call.Put c ∷ []) (append-nil old.calls) i;
  numbers = Some next;
  down = old.down;
  rows = append-nil (old.rows ++ []) i;
  sent = append-nil (old.sent ++ out ∷ []) i;
}

pub backup-begins : (t : LegTable) (c : CallTable) (r : PairRequest) (b : BackupRoute) (back : Option ℕ)
    (old : Answer) → RowsAreKnown t → b.primary ≡ route_from (local_of t) r.work →
    back ≡ first_back (local_of t) (state_of t c) (is_two_way r.work) (guarding (local_of t) r.work) b.out →
    in_pieces old (asked_here t (backup_over c r.work b.out b.rest b.primary back))
    (pairing r.call (beside_lsp r.work.lsp c.lsp))
    (record { tunnel = c.tunnel; lsp = c.lsp + 1 })
    ≡ followed_by old (backup_begun_here t c r b)
backup-begins t c r b back old known primary back_is =
    let p = local_of t in
    let paired = pairing r.call (beside_lsp r.work.lsp c.lsp) in
    let next : NextNumbers = record { tunnel = c.tunnel; lsp = c.lsp + 1 } in
    together old _ _ paired next
    ∙ ap (λ rows. followed_by old (asked rows b.primary back)) known
    ∙ ap (λ route. followed_by old (asked (known_rows p (legs_state t)) route back)) primary
    ∙ ap (λ y. followed_by old (asked (known_rows p (legs_state t)) (route_from p r.work) y)) back_is
  where
    asked : List TeRow → List Step → Option ℕ → Answer
    asked rows primary y = record nothing {
      legs = leg.Put (first_leg (local_of t) rows (backup_over c r.work b.out b.rest primary y)) ∷ [];
      calls = call.Put (pairing r.call (beside_lsp r.work.lsp c.lsp)) ∷ [];
      numbers = Some (record { tunnel = c.tunnel; lsp = c.lsp + 1 });
      sent = first_path_out (local_of t) (backup_over c r.work b.out b.rest primary y) ∷ [];
    }

-- the same of the parts that a body has at hand
pub backup-begun : (t : LegTable) (c : CallTable) (back : Option ℕ) (old : Answer) {r ri : PairRequest}
    {b bi : BackupRoute}
    {asked called used : Answer} {new : NewLsp} {lsp : Lsp} {copied paired : CallRec} {next : NextNumbers} →
    RowsAreKnown t → b.primary ≡ route_from (local_of t) r.work →
    back ≡ first_back (local_of t) (state_of t c) (is_two_way r.work) (guarding (local_of t) r.work) b.out →
    ri ≡ r → bi ≡ b → new ≡ backup_over c ri.work bi.out bi.rest bi.primary back → asked ≡ followed_by old
    (asked_here t new) →
    lsp ≡ new.lsp → copied ≡ ri.call → paired ≡ pairing copied lsp →
    called ≡ followed_by asked (changes_calls (call.Put paired ∷ [])) →
    next ≡ record { tunnel = c.tunnel; lsp = c.lsp + 1 } → used ≡ record called { numbers = Some next } →
    used ≡ followed_by old (backup_begun_here t c r b)
backup-begun t c back old {r} {ri} {b} {bi} {asked} {called} {used} {new} {lsp} {copied} {paired} {next} known primary
    back_is same_r same_b new_is asked_is lsp_is copied_is paired_is called_is next_is used_is =
    used_is
    ∙ ap (λ n. with_next called n) next_is
    ∙ ap (λ a. with_next a next_here) (called_is
    ∙ ap (λ a. followed_by a (changes_calls (call.Put paired ∷ [])))
    (asked_is ∙ ap (λ n. followed_by old (asked_here t n)) is)
    ∙ ap (λ p. followed_by (followed_by old (asked_here t new_here)) (changes_calls (call.Put p ∷ [])))
    (paired_is ∙ ap (λ k. pairing k lsp) copied_is ∙ ap (pairing ri.call) (lsp_is ∙ ap (λ n. n.lsp) is)
    ∙ ap (λ q. pairing q.call (beside_lsp r.work.lsp c.lsp)) same_r))
    ∙ backup-begins t c r b back old known primary back_is
  where
    with_next : Answer → NextNumbers → Answer
    with_next a n = record a { numbers = Some n }

    next_here : NextNumbers
    next_here = record { tunnel = c.tunnel; lsp = c.lsp + 1 }

    new_here : NewLsp
    new_here = backup_over c r.work b.out b.rest b.primary back

    is : new ≡ new_here
    is = new_is ∙ ap (λ q. backup_over c q.work bi.out bi.rest bi.primary back) same_r
        ∙ ap (λ q. backup_over c r.work q.out q.rest q.primary back) same_b
