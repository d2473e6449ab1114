-- The readers of expressions. The measure of their calls: the count of brackets still allowed and then the length left, with a rank that orders the
-- readers at one place.
use Rattle.std.proofs.Common.{◌-◌, length}
use Rattle.terms.specs.Expressions.{star, sign}
use Rattle.terms.specs.Vocabulary.Readers.{factor_at, product_at, sum_at}
use Rattle.terms.proofs.Nesting.{weight}
use Rattle.terms.proofs.Series.{Joined}
use Rattle.terms.proofs.expressions.Reader.+bracketed_expression_factor_product_sum.Given as goal

abbrev pub decreases-bracketed : goal.decreases-bracketed
decreases-bracketed g l = weight (length l.self.now.text.now) l.left l.at 0

abbrev pub decreases-expression : goal.decreases-expression
decreases-expression g l = weight (length l.self.now.text.now) l.left l.at 7

abbrev pub decreases-factor : goal.decreases-factor
decreases-factor g l = weight (length l.self.now.text.now) l.left l.at 1

abbrev pub decreases-product : goal.decreases-product
decreases-product g l = weight (length l.self.now.text.now) l.left l.at 3

abbrev pub decreases-sum : goal.decreases-sum
decreases-sum g l = weight (length l.self.now.text.now) l.left l.at 5

-- where each loop has come: what is read from here on is what is read from the start
abbrev pub invariant-product-loop-o : goal.invariant-product-loop-o
invariant-product-loop-o g l =
    Joined star (g.R.Reading.operations l.self.reading).apply l.self.text.now
    (factor_at (g.R.Reading.operations l.self.reading) l.self.limits l.self.text.now l.left)
    (product_at (g.R.Reading.operations l.self.reading) l.self.limits l.self.text.now l.left l.at) l.at l.end l.value

abbrev pub decreases-product-loop-o : goal.decreases-product-loop-o
decreases-product-loop-o g l = length l.self.text.now - l.end

abbrev pub invariant-sum-loop-o : goal.invariant-sum-loop-o
invariant-sum-loop-o g l =
    Joined sign (g.R.Reading.operations l.self.reading).apply l.self.text.now
    (product_at (g.R.Reading.operations l.self.reading) l.self.limits l.self.text.now l.left)
    (sum_at (g.R.Reading.operations l.self.reading) l.self.limits l.self.text.now l.left l.at) l.at l.end l.value

abbrev pub decreases-sum-loop-o : goal.decreases-sum-loop-o
decreases-sum-loop-o g l = length l.self.text.now - l.end
