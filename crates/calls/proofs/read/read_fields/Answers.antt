-- Each letter has its reader.
use Rattle.std.proofs.Common.{refl}
use Rattle.calls.proofs.read.read_fields.Goals as goal

pub returns-in-Rate : goal.returns-in-Rate
returns-in-Rate c = rw c.in-Rate.is c.rate.ensures

pub returns-in-Post : goal.returns-in-Post
returns-in-Post c = rw c.in-Post.is refl

pub returns-in-Void : goal.returns-in-Void
returns-in-Void c = rw c.in-Void.is refl

pub returns-in-File : goal.returns-in-File
returns-in-File c = rw c.in-File.is c.file.ensures

pub returns-in-Enter : goal.returns-in-Enter
returns-in-Enter c = rw c.in-Enter.is c.enter.ensures

pub returns-in-Report : goal.returns-in-Report
returns-in-Report c = rw c.in-Report.is c.report.ensures
