-- Each line without fault can be posted behind those before it.
use Rattle.std.proofs.Common.{◌≡◌, ℕ, Bool, true, false, cond, List, Ok, Err, refl, subst}
use Rattle.std.specs.Prelude.{Option, Some, None, Result}
use Rattle.ason_base.specs.{Network.Network, declared.commands.Command.Command, declared.ids.CallNo.CallNo, declared.commands.DisturbKind.DisturbKind}
use Rattle.mesh_rules.specs.Commands.{is_searchable}
use Rattle.plan_reader.specs.{declared.forms.CommandForm.CommandForm, declared.forms.SetupForm.SetupForm, declared.lines.Line.Line, declared.lines.Line.TheVariants.{Post, Settle, Show, Wait}, declared.limits.TheConstants.{MOST_ROUNDS, MOST_WAITED}, Entries.and_then, PlanCalls.CallList, PlanCommands.plan_command, PlanForms.{command_form, disturb_form, is_noise, is_settle, is_show, is_wait, setup_form}, PlanFrames.{disturb_of, frame_noise}, PlanScript.{unposted_as, unposted_line, line_as, script_line, other_as, other_line, plain_line, posted_line, settle_of, wait_of}, PlanSetups.setup_of, PlanTexts.positive_at, declared.faults.PlanKind.PlanKind}
use Rattle.plan_reader.specs.declared.faults.PlanKind.TheVariants as kinds
use Rattle.plan_reader.proofs.{Entries.both_read, SetupRoutes.form_backs_protected, FittingCalls.{AreFitting, CanPost, CanStand}, FrameLines.{WasAsked, disturb_stands, noise_stands}, PostedCommands.command_posts, PostedSetups.setup_posts}

posts :
    (t : Network) (calls : CallList) (before : List CallNo) (ws : List (List ℕ)) (line : Line)
    (r : Result Command PlanKind) → ((c : Command) → r ≡ Ok c → CanPost t calls before ws c)
    → posted_line r ≡ Ok line → CanStand t calls before ws line
posts t calls before ws line (Ok c) can h =
    let here = can c refl in
    let same : Post c ≡ line = cc (h) in
    subst (CanStand t calls before ws) same ((here.0, here.1), here.2)
posts t calls before ws line (Err k) can h = absurd (cc (h))

-- a line that is made of its number stands where it does with each
number_stands :
    (t : Network) (calls : CallList) (before : List CallNo) (ws : List (List ℕ)) (line : Line) (most : ℕ)
    (make : ℕ → Line) → ((n : ℕ) → CanStand t calls before ws (make n))
    → and_then (positive_at 1 most ws) (λ n. Ok (make n)) ≡ Ok line → CanStand t calls before ws line
number_stands t calls before ws line most make can h =
    let read = both_read (positive_at 1 most ws) (λ n. Ok (make n)) line h in
    let same : make read.0 ≡ line = cc (read.2) in
    subst (CanStand t calls before ws) same (can read.0)

plain_stands :
    (t : Network) (calls : CallList) (before : List CallNo) (ws : List (List ℕ)) (line : Line)
    → AreFitting t calls before → plain_line ws ≡ Ok line → CanStand t calls before ws line
plain_stands t calls before ws line fit h = go (is_settle ws) (is_wait ws) (is_show ws) h
  where
    go :
        (s w o : Bool)
        → cond s (settle_of ws) (cond w (wait_of ws) (cond o (Ok Show) (Err kinds.Words))) ≡ Ok line
        → CanStand t calls before ws line
    go true w o k = number_stands t calls before ws line MOST_ROUNDS Settle (λ n. (tt, fit)) k
    go false true o k = number_stands t calls before ws line MOST_WAITED Wait (λ n. (tt, fit)) k
    go false false true k = let same : Show ≡ line = cc (k) in subst (CanStand t calls before ws) same (tt, fit)
    go false false false k = absurd (cc (k))

abbrev unposted_or : Network → List (List ℕ) → List (List ℕ) → Option DisturbKind → Bool → Result Line PlanKind
unposted_or t names ws (Some kind) b = disturb_of t names ws kind
unposted_or t names ws None b = cond b (frame_noise t names ws) (plain_line ws)

unposted_stands :
    (t : Network) (names : List (List ℕ)) (calls : CallList) (before : List CallNo) (ws : List (List ℕ)) (line : Line)
    → WasAsked line → AreFitting t calls before → unposted_line t names ws ≡ Ok line → CanStand t calls before ws line
unposted_stands t names calls before ws line asked fit h = start (disturb_form ws) h
  where
    go :
        (o : Option DisturbKind) (b : Bool) → unposted_or t names ws o b ≡ Ok line
        → CanStand t calls before ws line
    go (Some kind) b k = disturb_stands t names calls before ws line kind fit k
    go None true k = noise_stands t names calls before ws line asked fit k
    go None false k = plain_stands t calls before ws line fit k

    start : (o : Option DisturbKind) → unposted_as t names ws o ≡ Ok line → CanStand t calls before ws line
    start (Some kind) k = go (Some kind) true k
    start None k = go None (is_noise ws) k

other_stands :
    (t : Network) (names : List (List ℕ)) (calls : CallList) (before : List CallNo) (ws : List (List ℕ)) (line : Line)
    → is_searchable t ≡ true → WasAsked line → AreFitting t calls before → other_line t names calls ws ≡ Ok line
    → CanStand t calls before ws line
other_stands t names calls before ws line searchable asked fit h = go (command_form ws) h
  where
    go : (o : Option CommandForm) → other_as t names calls ws o ≡ Ok line → CanStand t calls before ws line
    go None k = unposted_stands t names calls before ws line asked fit k
    go (Some f) k =
        posts t calls before ws line (plan_command t calls ws f)
        (λ c. command_posts t calls before ws f c searchable fit) k

-- a line without fault can be posted behind those before it
pub line_stands :
    (w : Bool) (t : Network) (names : List (List ℕ)) (calls : CallList) (before : List CallNo) (ws : List (List ℕ))
    (line : Line)
    → is_searchable t ≡ true → WasAsked line → AreFitting t calls before → script_line w t names calls ws ≡ Ok line
    → CanStand t calls before ws line
line_stands w t names calls before ws line searchable asked fit h = go (setup_form w ws) refl h
  where
    go :
        (o : Option SetupForm) → setup_form w ws ≡ o → line_as t names calls ws o ≡ Ok line
        → CanStand t calls before ws line
    go None e k = other_stands t names calls before ws line searchable asked fit k
    go (Some f) e k =
        posts t calls before ws line (setup_of t names calls ws f)
        (λ c. setup_posts t names calls before ws f c searchable fit (form_backs_protected w ws f e)) k
