-- What is under way from one end of a hop to the other, and what sending and handing up make of it.
use Rattle.std.proofs.Common.{◌≡◌, Bool, true, false, cond, List, [], ◌∷◌, ◌++◌, length, drop, refl, sym, ap, ◌∙◌, append-nil, append_assoc}
use Rattle.ason_base.specs.declared.messages.Msg.{Msg}
use Rattle.hop_reliable.specs.Schedules.{HopEnd, end_sends, under_way, IsInOrder}
use Rattle.world_rules.specs.Worlds.{sends_all}

drop_front : (xs ys : List Msg) → drop (length xs) (xs ++ ys) ≡ ys
drop_front [] ys = refl
drop_front (x ∷ xs) ys = drop_front xs ys

-- what was handed up is the front of what was given, and what is under way is the rest
pub way-is : (x y : HopEnd) (rest : List Msg) → y.up ++ rest ≡ x.given → under_way x y ≡ rest
way-is x y rest e = ap (drop (length y.up)) (sym e) ∙ drop_front y.up rest

given-sends : (ms : List Msg) (x : HopEnd) → (sends_all ms x).given ≡ x.given ++ ms
given-sends [] x = sym (append-nil x.given)
given-sends (m ∷ ms) x = given-sends ms (end_sends m x) ∙ append_assoc x.given (m ∷ []) ms

pub up-sends : (ms : List Msg) (x : HopEnd) → (sends_all ms x).up ≡ x.up
up-sends [] x = refl
up-sends (m ∷ ms) x = up-sends ms (end_sends m x)

-- it stays where the sender was given nothing and the receiver handed nothing up
pub way-same : (x y x' y' : HopEnd) → x'.given ≡ x.given → y'.up ≡ y.up → under_way x' y' ≡ under_way x y
way-same x y x' y' given up = ap (λ (ms : List Msg). drop (length ms) x'.given) up ∙ ap (drop (length y.up)) given

-- what is sent goes to its end, whatever the other end sends
pub way-sends : (b c : Bool) (ms ns : List Msg) (x y : HopEnd) → IsInOrder x y →
    under_way (cond b (sends_all ms x) x) (cond c (sends_all ns y) y) ≡ cond b (under_way x y ++ ms) (under_way x y)
way-sends b c ms ns x y r =
    way-same (cond b (sends_all ms x) x) y (cond b (sends_all ms x) x) (cond c (sends_all ns y) y) refl (up c) ∙ sent b
  where
    up : (c : Bool) → (cond c (sends_all ns y) y).up ≡ y.up
    up true = up-sends ns y
    up false = refl

    sent : (b : Bool) → under_way (cond b (sends_all ms x) x) y ≡ cond b (under_way x y ++ ms) (under_way x y)
    sent true =
        way-is (sends_all ms x) y (r.0 ++ ms) (sym (append_assoc y.up r.0 ms) ∙ ap (λ g. g ++ ms) r.1 ∙
        sym (given-sends ms x))
        ∙ ap (λ w. w ++ ms) (sym (way-is x y r.0 r.1))
    sent false = refl

-- a message that is handed up was the first of it
pub way-before : (given up rest : List Msg) (m : Msg) → (up ++ m ∷ []) ++ rest ≡ given →
    drop (length up) given ≡ m ∷ rest
way-before given up rest m e = ap (drop (length up)) (sym e ∙ append_assoc up (m ∷ []) rest) ∙ drop_front up (m ∷ rest)

-- and the others are left
pub way-after : (given up rest : List Msg) (m : Msg) → (up ++ m ∷ []) ++ rest ≡ given →
    drop (length (up ++ m ∷ [])) given ≡ rest
way-after given up rest m e = ap (drop (length (up ++ m ∷ []))) (sym e) ∙ drop_front (up ++ m ∷ []) rest
