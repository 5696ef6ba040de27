-- The rows passed follow each other and are gathered, and the last of them has made the floor.
use Rattle.std.proofs.Common.{◌≡◌, ℕ, ◌+◌, ◌-◌, get_or, set, bit_or, arith, refl, sym, ap, ◌∙◌, subst}
use Rattle.rules.specs.Read.{type_offset}
use Rattle.base.specs.Rows.{presence_at}
use Rattle.lookup.proofs.SdsShown.{used_below}
use Rattle.check_presences.specs.Floor.{Follows, Made}
use Rattle.check_presences.proofs.HalfLaws.{field_low}
use Rattle.check_presences.proofs.PassedLaws.{Passed, rows_refused, passed_first, first_made, first_all, passed_more, fine_follows, counted}
use Rattle.check_presences.proofs.rows_fine.Goals as goal

pub returns-then-n-eq1 : goal.returns-then-n-eq1
returns-then-n-eq1 c =
    let x = c.requires in first_all c.args.held.now x.system_first.0 x.system_first.1 x.by_index.1 c.if-n-eq1.true

pub presence_key-requires-clause-low_name : goal.presence_key-requires-clause-low_name
presence_key-requires-clause-low_name c =
    let x = c.requires in
    field_low c.args.base.now 0 x.base_len.0 (omega arith) (x.by_index.0 0 x.system_first.0.some).field

pub loop-i-init : goal.loop-i-init
loop-i-init c =
    let x = c.requires in
    let made = c.named-floor.ensures in
    let key = c.presence_key.ensures in record {
      place = refl;
      passed = passed_first _ x.system_first.0 x.system_first.1 x.by_index.1
          (first_made x.system_first.0 x.system_first.1 made.0 (made.1.0 ∙ key.first) (made.1.1 ∙ key.second));
    }

pub returns-in_default : goal.returns-in_default
returns-in_default c =
    let b = c.args.base.now in
    let k = c.loop-i.i - 1 in
    let here : c.loop-i.i ≡ k + 1 = omega arith in
    rows_refused (λ f. c.in_default.ensures (subst (λ (m : ℕ). Follows b k m) (sym here) (fine_follows k (omega arith) f)))

pub loop-i-preserved : goal.loop-i-preserved
loop-i-preserved c =
    let x = c.requires in
    let b = c.args.base.now in
    let i = c.loop-i.i in
    let k = i - 1 in
    let here : i ≡ k + 1 = omega arith in
    let held = c.loop-i.held in
    let t = c.presence_type.result in
    let floor = c.in-Some.made in
    let made = subst (λ (m : ℕ). Made b k m floor) here c.in-Some.ensures in
    let fine = x.by_index.0 (k + 1) (omega arith) in
    let type = c.presence_type.ensures.is ∙ ap (λ (m : ℕ). get_or b (presence_at m + type_offset) 0) here in
    let last : k + 1 ≡ i + 1 - 1 = omega arith in
    let below = used_below b x.base_len.0 (get_or b (presence_at (k + 1)) 0) made.made.bit.used in
    record {
      place = omega (arith, c.loop-i.invariant.place);
      passed = subst (λ (m : ℕ). Passed b m floor (set held t (bit_or (get_or held t 0) floor.bit))) last
          (subst (λ (w : ℕ). Passed b (k + 1) floor (set held t (bit_or (get_or held t 0) w))) (sym made.made.bit.is)
          (passed_more c.loop-i.invariant.passed made.follows made.made fine t (get_or b (presence_at (k + 1)) 0) type refl below));
    }

pub returns : goal.returns
returns c =
    counted c.loop-i.invariant.passed (omega (arith, c.requires.system_first.0.some)) c.from.result (c.from.ensures ∙ c.bits_in.ensures)
