-- What is proved of the runner beyond its contracts.
mod Playing
