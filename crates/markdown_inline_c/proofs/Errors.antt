-- Errors that are handed on.
use Rattle.std.proofs.Common.{◌≡◌, sym, subst, Result, Ok, Err, IfErr, IsErrAnd}
use Rattle.markdown_inline_c.specs.declared.fault.Fault.{Fault}

pub err_by : {T : Type 0} (r : Result T Fault) (fault : Fault) (P : Fault → Type 0) → IsErrAnd r (λ y. y ≡ fault) → P fault → IfErr r P
err_by (Ok x) fault P h holds = absurd h
err_by (Err y) fault P h holds = subst P (sym h) holds

pub err_and : {T E : Type 0} (r : Result T E) (error : E) (P : E → Type 0) → IsErrAnd r (λ y. y ≡ error) → P error → IsErrAnd r P
err_and (Ok x) error P h holds = absurd h
err_and (Err y) error P h holds = subst P (sym h) holds
