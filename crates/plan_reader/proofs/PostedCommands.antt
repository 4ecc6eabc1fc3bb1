-- Commands without fault that are no setups can be posted.
use Rattle.std.proofs.{Common.{◌≡◌, ℕ, zero, suc, Bool, true, false, cond, not, List, [], ◌∷◌, Ok, Err, refl, subst}, lemmas.Bool.{and_parts, and_from}}
use Rattle.std.specs.{Prelude.{Option, Some, None, Result, option_map, slice_get}, List.list_all}
use Rattle.ason_base.specs.{Network.{Network, is_node_id}, declared.commands.Command.Command, declared.commands.Command.TheVariants.{Fail, Protect, Release, Repair, Retry, Revert}, declared.commands.Group.Group, declared.ids.CallNo.CallNo, declared.ids.NodeId.NodeId}
use Rattle.mesh_rules.specs.Commands.{is_group, is_searchable}
use Rattle.plan_reader.specs.{Names.{is_name, place_of}, declared.forms.CommandForm.CommandForm, declared.limits.TheConstants.MOST_NUMBER, Entries.and_then, PlanCalls.{CallList, call_at}, PlanCommands.{call_of, plan_command, group_numbered, group_of, group_with, known_call}, PlanTexts.{word_up_to, word_at}}
use Rattle.plan_reader.specs.declared.forms.CommandForm.TheVariants as forms
use Rattle.plan_reader.specs.declared.faults.PlanKind.TheVariants as kinds
use Rattle.plan_reader.proofs.{Entries.{both_read, passed}, FittingCalls.{AreFitting, CanPost}}

all_at :
    {X : Type 0} (q : X → Bool) (xs : List X) (k : ℕ) (x : X) → list_all q xs ≡ true → slice_get xs k ≡ Some x
    → q x ≡ true
all_at q [] k x all h = absurd (cc (h))
all_at q (y ∷ xs) zero x all h =
    let same : y ≡ x = cc (h) in
    subst (λ z. q z ≡ true) same (and_parts (q y) (list_all q xs) all).0
all_at q (y ∷ xs) (suc k) x all h = all_at q xs k x (and_parts (q y) (list_all q xs) all).1 h

call_is_known :
    (t : Network) (calls : CallList) (before : List CallNo) (ws : List (List ℕ)) (call : CallNo × NodeId)
    → AreFitting t calls before → call_of calls ws ≡ Ok call → is_node_id t.nodes call.1 ≡ true
call_is_known t calls before ws call fit h =
    go (place_of calls.names (word_at ws 1)) (passed (not (is_name (word_at ws 1))) _ _ _ h).1
  where
    known :
        (k : ℕ) (o : Option NodeId) → slice_get calls.ingresses k ≡ o
        → known_call (option_map (λ from. (k, from)) o) ≡ Ok call → is_node_id t.nodes call.1 ≡ true
    known k None e r = absurd (cc (r))
    known k (Some from) e r =
        let same : (record { 0 = k }, from) ≡ call = cc (r) in
        subst (λ (c : CallNo × NodeId). is_node_id t.nodes c.1 ≡ true) same
        (all_at (λ i. is_node_id t.nodes i) calls.ingresses k from fit.known e)

    go : (o : Option ℕ) → known_call (call_at calls o) ≡ Ok call → is_node_id t.nodes call.1 ≡ true
    go None r = absurd (cc (r))
    go (Some k) r = known k (slice_get calls.ingresses k) refl r

group_is_known : (t : Network) (ws : List (List ℕ)) (g : Group) → group_of t ws ≡ Ok g → is_group t g ≡ true
group_is_known t ws g h = go (word_up_to MOST_NUMBER (word_at ws 2)) h
  where
    known :
        (f : Group) (b : Bool) → is_group t f ≡ b → cond (not b) (Err kinds.Group) (Ok f) ≡ Ok g
        → is_group t g ≡ true
    known f true e k = let same : f ≡ g = cc (k) in subst (λ d. is_group t d ≡ true) same e
    known f false e k = absurd (cc (k))

    go : (o : Option ℕ) → group_with t ws o ≡ Ok g → is_group t g ≡ true
    go None k = absurd (cc (k))
    go (Some n) k = known (group_numbered ws n) (is_group t (group_numbered ws n)) refl k

-- what is made of what was read can be posted where it can be of whatever is read so
made_posts :
    {X E : Type 0} (t : Network) (calls : CallList) (before : List CallNo) (ws : List (List ℕ)) (c : Command)
    (read : Result X E) (make : X → Command) → and_then read (λ x. Ok (make x)) ≡ Ok c
    → ((x : X) → read ≡ Ok x → CanPost t calls before ws (make x)) → CanPost t calls before ws c
made_posts t calls before ws c read make h can =
    let got = both_read read (λ x. Ok (make x)) c h in
    let same : make got.0 ≡ c = cc (got.2) in
    subst (CanPost t calls before ws) same (can got.0 got.1)

-- a command without fault can be posted
pub command_posts :
    (t : Network) (calls : CallList) (before : List CallNo) (ws : List (List ℕ)) (f : CommandForm) (c : Command)
    → is_searchable t ≡ true → AreFitting t calls before → plan_command t calls ws f ≡ Ok c
    → CanPost t calls before ws c
command_posts t calls before ws forms.Release c searchable fit h =
    made_posts t calls before ws c (call_of calls ws) (λ call. Release call.0 call.1) h
    (λ call is. (call_is_known t calls before ws call fit is, refl, fit))
command_posts t calls before ws forms.Protect c searchable fit h =
    made_posts t calls before ws c (call_of calls ws) (λ call. Protect call.0 call.1) h
    (λ call is. (and_from _ _ (call_is_known t calls before ws call fit is) searchable, refl, fit))
command_posts t calls before ws forms.Retry c searchable fit h =
    made_posts t calls before ws c (call_of calls ws) (λ call. Retry call.0 call.1) h
    (λ call is. (call_is_known t calls before ws call fit is, refl, fit))
command_posts t calls before ws forms.Revert c searchable fit h =
    made_posts t calls before ws c (call_of calls ws) (λ call. Revert call.0 call.1) h
    (λ call is. (call_is_known t calls before ws call fit is, refl, fit))
command_posts t calls before ws forms.Fail c searchable fit h =
    made_posts t calls before ws c (group_of t ws) Fail h (λ group is. (group_is_known t ws group is, refl, fit))
command_posts t calls before ws forms.Repair c searchable fit h =
    made_posts t calls before ws c (group_of t ws) Repair h (λ group is. (group_is_known t ws group is, refl, fit))
