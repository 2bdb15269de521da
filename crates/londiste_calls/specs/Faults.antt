-- Why a call is refused, by what it was refused below.
use Rattle.sky_trans.specs.declared.trans.TransFault.{TransFault}
use Rattle.sky_trans.specs.declared.trans.TransFault.TheVariants as trans
use Rattle.londiste_calls.specs.declared.faults.MakeRootFault.{MakeRootFault}
use Rattle.londiste_calls.specs.declared.faults.MakeRootFault.TheVariants as make
use Rattle.londiste_calls.specs.declared.faults.CopyFault.{CopyFault}
use Rattle.londiste_calls.specs.declared.faults.CopyFault.TheVariants as copy
use Rattle.londiste_calls.specs.declared.faults.ApplyFault.{ApplyFault}
use Rattle.londiste_calls.specs.declared.faults.ApplyFault.TheVariants as apply
use Rattle.londiste_calls.specs.declared.faults.WorkerFault.{WorkerFault}
use Rattle.londiste_calls.specs.declared.faults.WorkerFault.TheVariants as worker

-- a root needs the id of a transaction
abbrev pub make_root_fault_of : TransFault → MakeRootFault
make_root_fault_of trans.TxidsSpent = make.TxidsSpent
make_root_fault_of trans.NoMemory = make.NoMemory

-- a copy needs the id of a transaction
abbrev pub copy_fault_of : TransFault → CopyFault
copy_fault_of trans.TxidsSpent = copy.TxidsSpent
copy_fault_of trans.NoMemory = copy.NoMemory

-- a batch needs the id of a transaction
abbrev pub apply_fault_of : TransFault → ApplyFault
apply_fault_of trans.TxidsSpent = apply.TxidsSpent
apply_fault_of trans.NoMemory = apply.NoMemory

-- why a worker begins no copy
abbrev pub worker_fault_of : CopyFault → WorkerFault
worker_fault_of copy.TxidsSpent = worker.TxidsSpent
worker_fault_of copy.NoMemory = worker.NoMemory
