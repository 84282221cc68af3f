use Rattle.std.proofs.Common.{rules}
use Rattle.profile.proofs.Admitted.{admits_exactly}
use Rattle.profile.proofs.admission.admit.Goals as goal

pub returns-in_err-header-clause-exactly : goal.returns-in_err-header-clause-exactly
returns-in_err-header-clause-exactly g c = admits_exactly _ _ _ _ (search rules)

pub returns-in_err-payloads-clause-exactly : goal.returns-in_err-payloads-clause-exactly
returns-in_err-payloads-clause-exactly g c = admits_exactly _ _ _ _ (search rules)

pub returns-clause-exactly : goal.returns-clause-exactly
returns-clause-exactly g c = admits_exactly _ _ _ _ (search rules)
