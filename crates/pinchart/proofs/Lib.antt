mod Walking
mod Setting
