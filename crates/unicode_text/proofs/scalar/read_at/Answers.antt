use Rattle.std.proofs.Common.{◌≡◌, ℕ, List, None, Option, sym, refl, subst, inl, inr, arith}
use Rattle.unicode_text.specs.declared.scalar.Scalar.{Scalar}
use Rattle.unicode_text.specs.Scalars.{StandsAt}
use Rattle.unicode_text.proofs.Standing.{stands_one, no_one, no_two, stands_two, no_three, stands_three, no_four, stands_four}
use Rattle.unicode_text.proofs.scalar.read_at.Goals as goal

-- an early exit answers nothing
exits : (t : List ℕ) (at : ℕ) (o : Option Scalar) → o ≡ None → StandsAt t at None → StandsAt t at o
exits t at o e h = subst (StandsAt t at) (sym e) h

pub returns-in-0-to-127 : goal.returns-in-0-to-127
returns-in-0-to-127 c = stands_one c.args.text.now c.args.at c.requires (omega arith) c.of_length.result c.of_length.ensures

pub returns-in_err-a-in-192-to-223 : goal.returns-in_err-a-in-192-to-223
returns-in_err-a-in-192-to-223 c =
    exits c.args.text.now c.args.at c.from_residual.result c.from_residual.ensures
    (no_two c.args.text.now c.args.at (omega arith) (omega arith) c.in_err-a-in-192-to-223.ensures)

pub returns-in_ok-a-in-192-to-223 : goal.returns-in_ok-a-in-192-to-223
returns-in_ok-a-in-192-to-223 c =
    stands_two c.args.text.now c.args.at (omega arith) (omega arith) c.in_ok-a-in-192-to-223.a _ c.in_ok-a-in-192-to-223.ensures refl
    c.of_length-in-192-to-223.result c.of_length-in-192-to-223.ensures

pub returns-in_err-a-in-224-to-239 : goal.returns-in_err-a-in-224-to-239
returns-in_err-a-in-224-to-239 c =
    exits c.args.text.now c.args.at c.from_residual-in_err-a-in-224-to-239.result c.from_residual-in_err-a-in-224-to-239.ensures
    (no_three c.args.text.now c.args.at (omega arith) (omega arith) (inl c.in_err-a-in-224-to-239.ensures))

pub returns-in_err-b-in-224-to-239 : goal.returns-in_err-b-in-224-to-239
returns-in_err-b-in-224-to-239 c =
    exits c.args.text.now c.args.at c.from_residual-in_err-b-in-224-to-239.result c.from_residual-in_err-b-in-224-to-239.ensures
    (no_three c.args.text.now c.args.at (omega arith) (omega arith) (inr c.in_err-b-in-224-to-239.ensures))

pub returns-in_ok-b-in-224-to-239 : goal.returns-in_ok-b-in-224-to-239
returns-in_ok-b-in-224-to-239 c =
    stands_three c.args.text.now c.args.at (omega arith) (omega arith) c.in_ok-a-in-224-to-239.a c.in_ok-b-in-224-to-239.b _
    c.in_ok-a-in-224-to-239.ensures c.in_ok-b-in-224-to-239.ensures refl c.of_length-in-224-to-239.result c.of_length-in-224-to-239.ensures

pub returns-in_err-a-in-240-to-247 : goal.returns-in_err-a-in-240-to-247
returns-in_err-a-in-240-to-247 c =
    exits c.args.text.now c.args.at c.from_residual-in_err-a-in-240-to-247.result c.from_residual-in_err-a-in-240-to-247.ensures
    (no_four c.args.text.now c.args.at (omega arith) (omega arith) (inl c.in_err-a-in-240-to-247.ensures))

pub returns-in_err-b-in-240-to-247 : goal.returns-in_err-b-in-240-to-247
returns-in_err-b-in-240-to-247 c =
    exits c.args.text.now c.args.at c.from_residual-in_err-b-in-240-to-247.result c.from_residual-in_err-b-in-240-to-247.ensures
    (no_four c.args.text.now c.args.at (omega arith) (omega arith) (inr (inl c.in_err-b-in-240-to-247.ensures)))

pub returns-in_err-c-in-240-to-247 : goal.returns-in_err-c-in-240-to-247
returns-in_err-c-in-240-to-247 c =
    exits c.args.text.now c.args.at c.from_residual-in_err-c-in-240-to-247.result c.from_residual-in_err-c-in-240-to-247.ensures
    (no_four c.args.text.now c.args.at (omega arith) (omega arith) (inr (inr c.in_err-c-in-240-to-247.ensures)))

pub returns-in_ok-c-in-240-to-247 : goal.returns-in_ok-c-in-240-to-247
returns-in_ok-c-in-240-to-247 c =
    stands_four c.args.text.now c.args.at (omega arith) (omega arith) c.in_ok-a-in-240-to-247.a c.in_ok-b-in-240-to-247.b c.in_ok-c-in-240-to-247.c _
    c.in_ok-a-in-240-to-247.ensures c.in_ok-b-in-240-to-247.ensures c.in_ok-c-in-240-to-247.ensures refl c.of_length-in-240-to-247.result
    c.of_length-in-240-to-247.ensures

pub returns-in_default : goal.returns-in_default
returns-in_default c = no_one c.args.text.now c.args.at (omega arith) (inl (omega arith))

pub returns-in_default-2 : goal.returns-in_default-2
returns-in_default-2 c = no_one c.args.text.now c.args.at (omega arith) (inr (omega arith))
