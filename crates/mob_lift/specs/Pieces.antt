-- The walk over the pieces of two operands.
use Rattle.std.specs.Prelude.{List, [], map}
use Rattle.mob_span.{specs.Span.{SpanOf}, specs.Meets.{PieceOf}}
use Rattle.mob_slice.{specs.Sides.{SideOf, Moves, Stays}, specs.declared.slice.Slice.{Slice}}
use Rattle.mob_lift.{specs.Common.{CanAdvance, common_left}, specs.Ones.{CanWalkOne, ones_left}, specs.declared.walks.pieces.Walk.{Walk}}
use Rattle.mob_lift.{specs.declared.walks.pieces.Walk.TheVariants.{Both, Left, Right, Neither}, specs.declared.walks.pieces.Pieces.{Pieces}}

-- a common piece of two temporal values, and a piece of one next to a base value
abbrev pub both_move : {A X B Y : Type 0} → PieceOf (Slice A) (Slice B) → PieceOf (SideOf A X) (SideOf B Y)
both_move p = record { span = p.span; left = Moves p.left; right = Moves p.right }

abbrev pub left_moves : {A X B Y : Type 0} → Y → SpanOf × Slice A → PieceOf (SideOf A X) (SideOf B Y)
left_moves base p = record { span = p.0; left = Moves p.1; right = Stays base }

abbrev pub right_moves : {A X B Y : Type 0} → X → SpanOf × Slice B → PieceOf (SideOf A X) (SideOf B Y)
right_moves base p = record { span = p.0; left = Stays base; right = Moves p.1 }

-- the walk over the temporal operands can continue
abbrev pub CanWalkOn : {A X B Y : Type 0} → Walk A B X Y → Type 0
CanWalkOn (Both walk) = CanAdvance walk
CanWalkOn (Left beside) = CanWalkOne beside.walk
CanWalkOn (Right beside) = CanWalkOne beside.walk
CanWalkOn Neither = Unit {0}

abbrev pub CanGo : {A X B Y : Type 0} → Pieces A B X Y → Type 0
CanGo s = CanWalkOn s.walk

-- the pieces still to come: those of the walk, each with the base value next to it
abbrev pub still_to_come : {A X B Y : Type 0} → Walk A B X Y → List (PieceOf (SideOf A X) (SideOf B Y))
still_to_come (Both walk) = map both_move (common_left walk)
still_to_come (Left beside) = map (left_moves beside.base.now) (ones_left beside.walk)
still_to_come (Right beside) = map (right_moves beside.base.now) (ones_left beside.walk)
still_to_come Neither = []

abbrev pub pieces_left : {A X B Y : Type 0} → Pieces A B X Y → List (PieceOf (SideOf A X) (SideOf B Y))
pieces_left s = still_to_come s.walk
