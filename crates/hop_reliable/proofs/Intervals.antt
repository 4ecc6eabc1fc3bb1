-- When a message goes again.
use Rattle.std.proofs.{Common.{◌≡◌, ℕ, ◌+◌, ◌*◌, ◌<◌, ◌≤◌, ◌⊎◌, inl, inr, ◌==◌, ◌||◌, nat_lt, zero, suc, true, false, cond, refl, sym, subst, arith}, lemmas.Bool.or_cases}
use Rattle.ason_base.proofs.Numbers.{equal-is}
use Rattle.hop_reliable.specs.Ages.{older_age, is_due, age_after, Rhythm}

-- an age after so many ticks: the ticks less the rounds of 60
record Aging (ticks age : ℕ) : Type 0 where
  pub rounds : ℕ
  pub ticks_are : ticks ≡ age + 60 * rounds
  pub most : age ≤ 67
  pub late : 0 < rounds → 8 ≤ age

aging-older : (ticks age : ℕ) → Aging ticks age → Aging (suc ticks) (older_age age)
aging-older ticks age f =
    let ticks_are : ticks ≡ age + 60 * f.rounds = f.ticks_are in
    let most : age ≤ 67 = f.most in
    elim (nat_lt age 67) as (λ b. nat_lt age 67 ≡ b → Aging (suc ticks) (cond b (age + 1) 8)) [
      | true ↦ λ below. let less : age < 67 = grind arith in
          record {
            rounds = f.rounds;
            ticks_are = omega arith;
            most = omega arith;
            late = λ more. let old : 8 ≤ age =
                f.late more in omega arith;
          }
      | false ↦ λ above. let last : age ≡ 67 = grind arith in
          record { rounds = f.rounds + 1; ticks_are = omega arith; most = omega arith; late = λ more. omega arith }
    ] refl

aging : (ticks : ℕ) → Aging ticks (age_after ticks)
aging zero = record { rounds = 0; ticks_are = omega arith; most = omega arith; late = λ more. omega arith }
aging (suc ticks) = aging-older ticks (age_after ticks) (aging ticks)

IsDueTick : ℕ → Type 0
IsDueTick ticks = (ticks ≡ 1) ⊎ (ticks ≡ 3) ⊎ ((rounds : ℕ) × (ticks ≡ 7 + 60 * rounds))

-- before age 8 no round has passed
no_round : (age rounds : ℕ) → (0 < rounds → 8 ≤ age) → age < 8 → rounds ≡ 0
no_round age zero late early = refl
no_round age (suc rounds) late early = absurd (let more : 8 ≤ age = late (omega arith) in omega arith)

at_age : (n age : ℕ) → is_due n ≡ true → age ≡ n → is_due age ≡ true
at_age n age is_due_then is_n = subst (λ a. is_due a ≡ true) (sym is_n) is_due_then

due_early : (ticks age : ℕ) → Aging ticks age → (age ≡ 1) ⊎ (age ≡ 3) → IsDueTick ticks
unfolding IsDueTick
due_early ticks age f (inl one) = let none : f.rounds ≡ 0 =
    no_round age f.rounds f.late (omega arith) in inl (omega (arith, f.ticks_are))
due_early ticks age f (inr three) = let none : f.rounds ≡ 0 =
    no_round age f.rounds f.late (omega arith) in inr
    (inl (omega (arith, f.ticks_are)))

due_at : (ticks age : ℕ) → Aging ticks age → is_due age ≡ true → IsDueTick ticks
unfolding IsDueTick
due_at ticks age f due =
    elim (or_cases (age == 1 || age == 3 || age == 7) (age == 67) due) [
      | inl sooner ↦ elim (or_cases (age == 1 || age == 3) (age == 7) sooner) [
        | inl first ↦ elim (or_cases (age == 1) (age == 3) first) [
          | inl one ↦ due_early ticks age f (inl (equal-is age 1 one))
          | inr three ↦ due_early ticks age f (inr (equal-is age 3 three))
        ]
        | inr seven ↦ let is_seven : age ≡ 7 = equal-is age 7 seven in inr (inr (f.rounds, omega (arith, f.ticks_are)))
      ]
      | inr last ↦ let is_last : age ≡ 67 = equal-is age 67 last in inr (inr (f.rounds + 1, omega (arith, f.ticks_are)))
    ]

due_in_round : (ticks age rounds : ℕ) → Aging ticks age → ticks ≡ 7 + 60 * rounds → is_due age ≡ true
due_in_round ticks age rounds f is_round =
    let ticks_are : ticks ≡ age + 60 * f.rounds = f.ticks_are in
    let most : age ≤ 67 = f.most in
    elim (nat_lt age 8) as (λ b. nat_lt age 8 ≡ b → is_due age ≡ true) [
      | true ↦ λ below.
          let less : age < 8 = grind arith in
          let none : f.rounds ≡ 0 = no_round age f.rounds f.late less in
          at_age 7 age refl (omega arith)
      | false ↦ λ above. let more : 8 ≤ age = grind arith in at_age 67 age refl (omega arith)
    ] refl

is_due_at : (ticks age : ℕ) → Aging ticks age → IsDueTick ticks → is_due age ≡ true
unfolding IsDueTick
is_due_at ticks age f (inl one) = at_age 1 age refl (omega (arith, f.ticks_are))
is_due_at ticks age f (inr (inl three)) = at_age 3 age refl (omega (arith, f.ticks_are))
is_due_at ticks age f (inr (inr round)) = due_in_round ticks age round.0 f round.1

pub rhythm : Rhythm
unfolding IsDueTick
rhythm ticks = (due_at ticks (age_after ticks) (aging ticks), is_due_at ticks (age_after ticks) (aging ticks))
