mod TableNames
mod Going
