-- The calls of the lines so far, and what can be posted behind them.
use Rattle.std.proofs.{Common.{◌≡◌, ℕ, true, false, ◌&&◌, ◌==◌, ◌+◌, ◌++◌, nat_lt, arith, length, length-append, List, [], ◌∷◌, refl, sym, ap, ◌∙◌}, lemmas.Bool.{and_parts, and_from}, lemmas.List.Folds.list_all-append}
use Rattle.std.specs.List.{list_all, list_any}
use Rattle.ason_base.specs.{Network.{Network, is_node_id}, declared.commands.Command.Command, declared.ids.CallNo.CallNo, declared.ids.NodeId.NodeId}
use Rattle.mesh_rules.specs.Commands.{is_again, is_valid}
use Rattle.plan_reader.specs.{declared.lines.Line.Line, FoundNames.AreFoundByName, Names.{has_name, is_name}, PlanCalls.{CallList, calls_with, with_named_call}, PlanScript.calls_with_line, Plans.{IsPostable, calls_after, calls_after_line}}
use Rattle.plan_reader.proofs.FoundNames.{one_more_found}

-- every posted call number is one of them, and each has a node as its ingress, and a name by which it is found
pub record AreFitting (t : Network) (calls : CallList) (before : List CallNo) : Type 0 where
  pub below : list_all (λ m. nat_lt m.0 (length calls.names)) before ≡ true
  pub known : list_all (λ i. is_node_id t.nodes i) calls.ingresses ≡ true
  pub counted : length calls.names ≡ length before
  pub found : AreFoundByName calls.names

-- the next number is new
pub fresh :
    (n : ℕ) (before : List CallNo) → list_all (λ m. nat_lt m.0 n) before ≡ true
    → list_any (λ m. m.0 == n) before ≡ false
fresh n [] h = refl
fresh n (m ∷ before) h =
    let parts = and_parts (nat_lt m.0 n) (list_all (λ m. nat_lt m.0 n) before) h in
    rw (other m.0 n parts.0, fresh n before parts.1) refl
  where
    other : (a b : ℕ) → nat_lt a b ≡ true → (a == b) ≡ false
    other a b p = grind arith

more_below :
    (n : ℕ) (before : List CallNo) → list_all (λ m. nat_lt m.0 n) before ≡ true
    → list_all (λ m. nat_lt m.0 (n + 1)) before ≡ true
more_below n [] h = refl
more_below n (m ∷ before) h =
    let parts = and_parts (nat_lt m.0 n) (list_all (λ m. nat_lt m.0 n) before) h in
    rw (wider m.0 n parts.0, more_below n before parts.1) refl
  where
    wider : (a b : ℕ) → nat_lt a b ≡ true → nat_lt a (b + 1) ≡ true
    wider a b p = grind arith

pub call_fits :
    (t : Network) (calls : CallList) (before : List CallNo) (name : List ℕ) (from : NodeId)
    → is_node_id t.nodes from ≡ true → is_name name ≡ true → has_name calls.names name ≡ false
    → AreFitting t calls before
    → AreFitting t (with_named_call calls name from) (before ++ (record { 0 = length calls.names }) ∷ [])
call_fits t calls before name from is named absent fit = record {
  below =
      rw longer
      (list_all-append (λ m. nat_lt m.0 (length calls.names + 1)) before (this ∷ [])
      ∙ and_from _ _ (more_below (length calls.names) before fit.below) (last (length calls.names)));
  known =
      list_all-append (λ i. is_node_id t.nodes i) calls.ingresses (from ∷ [])
      ∙ and_from _ _ fit.known (and_from (is_node_id t.nodes from) true is refl);
  counted = longer ∙ (ap (λ k. k + 1) fit.counted ∙ sym (length-append before (this ∷ [])));
  found = one_more_found calls.names name fit.found named absent;
}
  where
    this : CallNo
    this = record { 0 = length calls.names }

    longer : length (calls.names ++ name ∷ []) ≡ length calls.names + 1
    longer = length-append calls.names (name ∷ [])

    last : (n : ℕ) → (nat_lt n (n + 1) && true) ≡ true
    last n = grind arith

-- What can be posted

-- a command that can be posted, and the calls after it
abbrev pub CanPost : Network → CallList → List CallNo → List (List ℕ) → Command → Type 0
CanPost t calls before ws c =
    (is_valid t c ≡ true) × (is_again before c ≡ false) × AreFitting t (calls_with calls ws c) (calls_after before c)

-- a line that can be posted, and the calls after it
abbrev pub CanStand : Network → CallList → List CallNo → List (List ℕ) → Line → Type 0
CanStand t calls before ws line =
    IsPostable t before line × AreFitting t (calls_with_line calls ws line) (calls_after_line before line)
