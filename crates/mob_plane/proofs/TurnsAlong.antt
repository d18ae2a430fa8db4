-- The turn of a point that moves linearly changes linearly.
use Rattle.std.{specs.Prelude.{◌≡◌}, proofs.Common.{sym, ap, ◌∙◌}}
use Rattle.mob_ratio.{specs.Ratio.{Ratio, ◌-ℚ◌, ◌*ℚ◌}, specs.Line.{line_at}, proofs.Field.{mul_comm}, proofs.LineAt.{line_at-level, line_at-scale}, proofs.Signs.{line_at-diff}}
use Rattle.mob_plane.{specs.Turns.{turn}, specs.declared.point.Point.{Point}}

line_at-times : (k x0 x1 l u t : Ratio) → k *ℚ line_at x0 x1 l u t ≡ line_at (k *ℚ x0) (k *ℚ x1) l u t
line_at-times k x0 x1 l u t =
    mul_comm k (line_at x0 x1 l u t)
    ∙ sym (line_at-scale x0 x1 k l u t)
    ∙ ap (λ z. line_at z (x1 *ℚ k) l u t) (mul_comm x0 k)
    ∙ ap (λ z. line_at (k *ℚ x0) z l u t) (mul_comm x1 k)

-- the difference to a constant
pub line_at-from : (x0 x1 a l u t : Ratio) → line_at x0 x1 l u t -ℚ a ≡ line_at (x0 -ℚ a) (x1 -ℚ a) l u t
line_at-from x0 x1 a l u t = ap (λ z. line_at x0 x1 l u t -ℚ z) (sym (line_at-level a l u t)) ∙ line_at-diff x0 x1 a a l u t

half : (k x0 x1 a l u t : Ratio) → k *ℚ (line_at x0 x1 l u t -ℚ a) ≡ line_at (k *ℚ (x0 -ℚ a)) (k *ℚ (x1 -ℚ a)) l u t
half k x0 x1 a l u t = ap (λ z. k *ℚ z) (line_at-from x0 x1 a l u t) ∙ line_at-times k (x0 -ℚ a) (x1 -ℚ a) l u t

-- the point at t of the linear motion from p at l to q at u
abbrev pub on_way : Point → Point → Ratio → Ratio → Ratio → Point
on_way p q l u t = record { x = line_at p.x q.x l u t; y = line_at p.y q.y l u t }

pub turn-line : (a b p q : Point) (l u t : Ratio) → turn a b (on_way p q l u t) ≡ line_at (turn a b p) (turn a b q) l u t
turn-line a b p q l u t =
    ap (λ z. z -ℚ (b.y -ℚ a.y) *ℚ (line_at p.x q.x l u t -ℚ a.x)) (half (b.x -ℚ a.x) p.y q.y a.y l u t)
    ∙ ap (λ z. line_at ((b.x -ℚ a.x) *ℚ (p.y -ℚ a.y)) ((b.x -ℚ a.x) *ℚ (q.y -ℚ a.y)) l u t -ℚ z) (half (b.y -ℚ a.y) p.x q.x a.x l u t)
    ∙ line_at-diff ((b.x -ℚ a.x) *ℚ (p.y -ℚ a.y)) ((b.x -ℚ a.x) *ℚ (q.y -ℚ a.y)) ((b.y -ℚ a.y) *ℚ (p.x -ℚ a.x)) ((b.y -ℚ a.y) *ℚ (q.x -ℚ a.x)) l u t
