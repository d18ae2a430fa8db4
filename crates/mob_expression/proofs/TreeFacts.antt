-- Trees and typed trees of the program, unfolded one level at a time.
use Rattle.std.proofs.Common.{◌≡◌, ◌<◌, ◌≤◌, length, get_or, arith, ◌∙◌, refl, sym, ap, ℕ, List, [], ◌∷◌, Option, Some, None, Bool, true, false, cond}
use Rattle.mob_ast.{specs.declared.expression.Expr.{Expr}, specs.declared.expression.Expr.TheViews.{out-Expr}, specs.declared.expression.Expr.TheFolds.{fold_out-Expr}}
use Rattle.mob_ast.{specs.Trees.{Tree, tree, tree_step, tree_of, trees_of}, specs.declared.expression.Node.TheVariants.{Sign}}
use Rattle.mob_expression.specs.Expressions.{is_signed, digits_of, digits_in, signed_digits, only, divisor_of}

pub tree_is : (e : Expr) → tree_of e ≡ tree (out-Expr e).node (out-Expr e).place (trees_of (out-Expr e).args.items)
tree_is = fold_out-Expr Tree tree_step

pub digits_is : (e : Expr) → digits_of (tree_of e) ≡ signed_digits (out-Expr e).node (digits_in (trees_of (out-Expr e).args.items))
unfolding digits_of
digits_is e = ap digits_of (tree_is e)

pub digits_of_one : (es : List Expr) (x : Expr) → length es < 2 → x ≡ get_or es 0 x → 1 ≤ length es → digits_in (trees_of es) ≡ digits_of (tree_of x)
unfolding digits_in
digits_of_one [] x few at some = absurd (omega arith)
digits_of_one (y ∷ []) x few at some = ap (λ e. digits_of (tree_of e)) (sym at)
digits_of_one (y ∷ z ∷ es) x few at some = absurd (omega arith)

pub digits_of_none : (es : List Expr) → length es < 1 → digits_in (trees_of es) ≡ None
unfolding digits_in
digits_of_none [] few = refl
digits_of_none (y ∷ es) few = absurd (omega arith)

pub digits_of_more : (es : List Expr) → 2 ≤ length es → digits_in (trees_of es) ≡ None
unfolding digits_in
digits_of_more [] many = refl
digits_of_more (y ∷ []) many = absurd (omega arith)
digits_of_more (y ∷ z ∷ es) many = refl

-- a list of operands, by its length
pub only_one : (es : List Expr) (x : Expr) → length es < 2 → x ≡ get_or es 0 x → 1 ≤ length es → Some (tree_of x) ≡ only (trees_of es)
only_one [] x few at some = absurd (omega arith)
only_one (y ∷ []) x few at some = ap (λ e. Some (tree_of e)) at
only_one (y ∷ z ∷ es) x few at some = absurd (omega arith)

pub only_none : (es : List Expr) → length es < 1 → None ≡ only (trees_of es)
only_none [] few = refl
only_none (y ∷ es) few = absurd (omega arith)

pub only_more : (es : List Expr) → 2 ≤ length es → None ≡ only (trees_of es)
only_more [] many = absurd (omega arith)
only_more (y ∷ []) many = absurd (omega arith)
only_more (y ∷ z ∷ es) many = refl

pub divisor_second : (es : List Expr) (x : Expr) → length es < 3 → x ≡ get_or es 1 x → 2 ≤ length es → digits_of (tree_of x) ≡ divisor_of (trees_of es)
divisor_second [] x few at some = absurd (omega arith)
divisor_second (y ∷ []) x few at some = absurd (omega arith)
divisor_second (y ∷ z ∷ []) x few at some = ap (λ e. digits_of (tree_of e)) at
divisor_second (y ∷ z ∷ w ∷ es) x few at some = absurd (omega arith)

pub divisor_few : (es : List Expr) → length es < 2 → None ≡ divisor_of (trees_of es)
divisor_few [] few = refl
divisor_few (y ∷ []) few = refl
divisor_few (y ∷ z ∷ es) few = absurd (omega arith)

pub divisor_many : (es : List Expr) → 3 ≤ length es → None ≡ divisor_of (trees_of es)
divisor_many [] many = absurd (omega arith)
divisor_many (y ∷ []) many = absurd (omega arith)
divisor_many (y ∷ z ∷ []) many = absurd (omega arith)
divisor_many (y ∷ z ∷ w ∷ es) many = refl

abbrev nothing : Option (List ℕ)
nothing = None

sign_same : (b : Bool) → cond b nothing nothing ≡ nothing
sign_same true = refl
sign_same false = refl

pub sign_none : (e : Expr) (g : List ℕ) → (out-Expr e).node ≡ Sign g → digits_in (trees_of (out-Expr e).args.items) ≡ None → digits_of (tree_of e) ≡ None
sign_none e g is none = digits_is e ∙ ap (λ n. signed_digits n (digits_in (trees_of (out-Expr e).args.items))) is ∙ ap (λ d. cond (is_signed g) d None) none ∙ sign_same (is_signed g)

pub sign_one : (e : Expr) (g : List ℕ) (x : Expr) → (out-Expr e).node ≡ Sign g → is_signed g ≡ true → digits_in (trees_of (out-Expr e).args.items) ≡ digits_of (tree_of x) → digits_of (tree_of e) ≡ digits_of (tree_of x)
sign_one e g x is signed one = digits_is e ∙ ap (λ n. signed_digits n (digits_in (trees_of (out-Expr e).args.items))) is ∙ ap (λ b. cond b (digits_in (trees_of (out-Expr e).args.items)) None) signed ∙ one
