-- A request of the code, as clauses see it.
use Rattle.fv_outside.specs.headline.Requests.{Request, to_read, to_write}
use Rattle.fv_outside.specs.declared.requests.Request.{Request as Asked}
use Rattle.fv_outside.specs.declared.requests.Request.TheVariants.{Read, Write}

-- the request that the code names (this project's profile)
abbrev pub request_of : Asked → Request
request_of (Read role name) = to_read role name.now
request_of (Write role name) = to_write role name.now
