use mathlib.Core.Path.{refl}
use Prim.Native.Nat.{◌-◌, ◌*◌, ◌/◌, ◌≤◌}
use native.Mathlib.Omega.{arith}
use Rattle.calendar.proofs.span.Laws.{span_range}
use Rattle.calendar.proofs.year.Laws.{estimate_J, estimate_G, estimated}
use Rattle.calendar.specs.Span.{last_day}
use Rattle.calendar.specs.Year.{first_new_year}
use Rattle.calendar.specs.declared.style.Calendar.TheVariants.{Julian, Gregorian}
use Rattle.calendar.proofs.style.Calendar.year_estimate.Goals as goal
use Rattle.calendar.proofs.style.Calendar.year_estimate.Goals.{In-Gregorian, In-Julian}

j_days : (c : In-Julian) → (first_new_year Julian ≤ c.args.day) × (c.args.day ≤ last_day Julian)
j_days c =
    let r = rw c.in-Julian.is at (span_range _ _ c.requires) in
    omega arith

g_days : (c : In-Gregorian) → (first_new_year Gregorian ≤ c.args.day) × (c.args.day ≤ last_day Gregorian)
g_days c =
    let r = rw c.in-Gregorian.is at (span_range _ _ c.requires) in
    omega arith

pub returns-in-Julian : goal.returns-in-Julian
returns-in-Julian c =
    let day = c.args.day in
    let r = j_days (goal.at.returns-in-Julian c).In-Julian in
    let g = estimated Julian day ((day - first_new_year Julian) * 4 / 1461) r.0 (estimate_J _ _ refl) in
    rw c.in-Julian.is (omega arith, omega arith, g.0, g.1)

pub returns-in-Gregorian : goal.returns-in-Gregorian
returns-in-Gregorian c =
    let day = c.args.day in
    let r = g_days (goal.at.returns-in-Gregorian c).In-Gregorian in
    let g = estimated Gregorian day ((day - first_new_year Gregorian) * 400 / 146097) r.0 (estimate_G _ _ refl) in
    rw c.in-Gregorian.is (omega arith, omega arith, g.0, g.1)
