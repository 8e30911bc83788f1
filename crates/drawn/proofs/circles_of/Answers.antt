-- `circles_of`: each call of the map gave the circle of its head.
use Rattle.std.proofs.Common.{ℕ, ◌<◌, ◌≡◌, length, get_or, map, sym, ◌∙◌, rules, arith}
use Rattle.std.proofs.lemmas.List.{ext_get_or, get_or-map, length-map}
use Rattle.plan.specs.Limits.{no_head}
use Rattle.exact.specs.Circle.{circle_of}
use Rattle.drawn.proofs.circles_of.Goals as goal

pub returns : goal.returns
returns c =
    let heads = c.args.plan.heads in
    let circles = c.map.result in
    let mapped = c.map.ensures.items in
    let none = circle_of no_head in
    let ten : length heads ≡ 10 = search rules in
    let each : (i : ℕ) → i < 10 → get_or circles i none ≡ circle_of (get_or heads i no_head) =
    λ i l. let called = mapped.at i no_head none l in search rules in
    let here : (i : ℕ) → i < 10 → get_or (map circle_of heads) i none ≡ circle_of (get_or heads i no_head) =
    λ i l. get_or-map circle_of heads i no_head none (omega (arith, ten, l)) in
    ext_get_or none circles (map circle_of heads) (mapped.long ∙ sym ten ∙ sym (length-map heads circle_of))
    (λ i l. let few : i < 10 = omega (arith, mapped.long) in each i few ∙ sym (here i few))
