use Rattle.asl_laws.proofs.certificates.Lines.{stages_law}
use Rattle.asl_laws.proofs.certificates.Verdicts.{verdicts}
use Rattle.asl_laws.proofs.certificates.Programs.{certificates, certificates_ok, one_certificate}
use Rattle.asl_laws.proofs.certificates.Agreeing.{certificates_agree}
use Rattle.asl_laws.proofs.certificates.Refusing.{refused_fault}
use Rattle.asl_laws.proofs.certificate.certificate_law.Goals as goal

pub returns-clause-yes : goal.returns-clause-yes
returns-clause-yes c = certificates_ok

pub returns-clause-law : goal.returns-clause-law
returns-clause-law c = certificates

pub returns-clause-one : goal.returns-clause-one
returns-clause-one c = one_certificate

pub returns-clause-stages : goal.returns-clause-stages
returns-clause-stages c = stages_law

pub returns-clause-verdicts : goal.returns-clause-verdicts
returns-clause-verdicts c = verdicts

pub returns-clause-agrees : goal.returns-clause-agrees
returns-clause-agrees c = certificates_agree

pub returns-clause-refused : goal.returns-clause-refused
returns-clause-refused c = refused_fault
