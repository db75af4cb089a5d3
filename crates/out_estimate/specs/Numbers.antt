-- What the numbers say.
use Rattle.spec_estimate.specs.Estimate.{EstimateAnswer}
use Rattle.out_estimate.specs.declared.EstimateNumbers.{EstimateNumbers}

abbrev pub estimate_in : EstimateNumbers → EstimateAnswer
estimate_in n = record { number = n.number; numerator = n.numerator; denominator = n.denominator; nearest = n.nearest }
